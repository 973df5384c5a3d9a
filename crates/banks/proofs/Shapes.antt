-- The two shapes of a function that changes a bank by a number n of the width w, as contracts. R is what it requires of n, and f what it makes of the bank.
--     lent     in place:   fn (b: &mut Bank, n: uN)          b.new ≡ f n b.old
--     held     by value:   fn (b: Bank, n: uN) -> Bank       result ≡ f n b
-- Definitions, to which the contracts of the functions compute.
use Prim.Native.Nat.{ℕ}
use mathlib.Core.Path.{◌≡◌}
use mathlib.Core.List.{[], ◌∷◌}
use seplogic.Ra.Ura.{Ura}
use mir.Syntax.{Width}
use base.Logic.{SProp}
use contract.Monad.{fact}
use denote.Builtin.{unit, RefMutOf}
use denote.Plain.{UInt}
use denote.Exit.{yes}
use denote.Signature.{Slot, Signature, plain}
use denote.Triple.Clauses.{Clauses, Ended}
use Rattle.guest.specs.declared.Bank.{Bank}
use Rattle.guest.specs.contracts.Bank as T

abbrev pub BankS : {n : ℕ} → Slot n
BankS = plain (λ _. T.the_row)

abbrev pub lent_signature : Width → Signature
lent_signature w = record {
  lifetimes = 1;
  outlives = [];
  params = RefMutOf (0 ∷ []) tt BankS (λ _. tt) ∷ plain (λ _. UInt w) ∷ [];
  result = plain (λ _. unit);
}

abbrev pub lent_ended : Width → Ended
lent_ended w = record { signature = lent_signature w; kept = (yes, (yes, tt)) }

abbrev pub held_signature : Width → Signature
held_signature w = record {
  lifetimes = 0;
  outlives = [];
  params = BankS ∷ plain (λ _. UInt w) ∷ [];
  result = BankS;
}

abbrev pub held_ended : Width → Ended
held_ended w = record { signature = held_signature w; kept = (yes, (yes, tt)) }

module _ {M : Type 1} (𝓤 : Ura M) (w : Width) (R : ℕ → SProp 𝓤) (f : ℕ → Bank → Bank) where
  abbrev pub lent : Clauses 𝓤 (lent_ended w)
  lent κs a = record {
    ghost = Unit {0};
    requires = λ _. R a.1.0;
    ensures = λ _ _ end. fact 𝓤 (end.0.now ≡ f a.1.0 a.0.now);
  }

  abbrev pub held : Clauses 𝓤 (held_ended w)
  held κs a = record {
    ghost = Unit {0};
    requires = λ _. R a.1.0;
    ensures = λ _ r _. fact 𝓤 (r ≡ f a.1.0 a.0);
  }
