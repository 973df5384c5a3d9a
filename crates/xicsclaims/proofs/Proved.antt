-- All that is claimed of the calls on an XICS. Assumes nothing.
use Rattle.xicsclaims.specs.XicsClaims.{XicsProved}
use Rattle.xicsclaims.proofs.Any.{any}
use Rattle.xicsclaims.proofs.First.{tests, leaves, zeros}
use Rattle.xicsclaims.proofs.Stays.{makes, stays}
use Rattle.xicsclaims.proofs.Accepts.{accepts}
use Rattle.xicsclaims.proofs.Words.{words}
use Rattle.xicsclaims.proofs.Others.{others}
use Rattle.xicsclaims.proofs.Delivery.{asks, asks_delivery_lem}
use Rattle.xicsclaims.proofs.Rules.{rules}

pub xics_proved : XicsProved
xics_proved = record {
  any = any;
  tests = tests;
  makes = makes;
  leaves = leaves;
  stays = stays;
  accepts = accepts;
  rules = rules;
  zeros = zeros;
  words = words;
  others = others;
  asks = asks;
  delivery = asks_delivery_lem;
}
