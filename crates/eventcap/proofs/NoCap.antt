-- The one theorem of this crate, of its parts. Assumes nothing.
use Rattle.layout.specs.Layout.{decode}
use Rattle.maplayout.specs.MapLayout.{decode_map}
use Rattle.state.proofs.Meaning.{sound_says}
use Rattle.eventcap.proofs.Claim.{NoCap}
use Rattle.eventcap.proofs.Saved.{distance_whole, sound_saved}
use Rattle.eventcap.proofs.Ways.{event_ways, event_chain, last_blank}
use Rattle.eventcap.proofs.Restored.{restored_same}
use Rattle.eventcap.proofs.Described.{described_same}

pub no_cap : NoCap
no_cap = record {
  distances = λ s h. distance_whole (decode s) (decode_map s) (sound_says s h.rules).mapped;
  saves = sound_saved;
  ways = event_ways;
  chains = event_chain;
  blank = last_blank;
  restores = restored_same;
  describes = described_same;
}
