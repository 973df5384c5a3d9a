-- §14.12: each rule broken by itself, beside bytes that keep them all: a call answers -22 or goes on.
use Rattle.std.specs.Prelude.{List, [], ◌∷◌, ℕ, ◌≡◌, true, false}
use Rattle.xicsrules.specs.Sound.{sound_xics}
use Rattle.xicsruns.specs.XicsRun.{laid}

-- Notation: servers 1 and a with word v, sources 7 and b with word w
abbrev pub four : ℕ → ℕ → ℕ → ℕ → List ℕ
four a v b w = laid 2 2 (1 ∷ 0x00000000FFFF0000 ∷ a ∷ v ∷ []) (7 ∷ 0x000002FF00000001 ∷ b ∷ w ∷ [])

-- §14.12: sound, and what is not
pub record Broken : Type 0 where
  pub sound : sound_xics (four 0xFFFFFFFF 0x0000000500010000 0xFFFFF 0x000007FFFFFFFFFF) ≡ true
  -- a server's number, and one twice
  pub server_number : sound_xics (four 0x100000000 0x0000000500010000 0xFFFFF 0x000007FF00000001) ≡ false
  pub server_twice : sound_xics (four 1 0x0000000500010000 0xFFFFF 0x000007FF00000001) ≡ false
  -- a server's word: bits 15:0; nothing pending from a source, and something from none
  pub lowest : sound_xics (four 2 0x0000000500010001 0xFFFFF 0x000007FF00000001) ≡ false
  pub bit15 : sound_xics (four 2 0x0000000500018000 0xFFFFF 0x000007FF00000001) ≡ false
  pub no_priority : sound_xics (four 2 0x0000000500FF0000 0xFFFFF 0x000007FF00000001) ≡ false
  pub no_source : sound_xics (four 2 0x0000000000010000 0xFFFFF 0x000007FF00000001) ≡ false
  -- a source's number, and one twice
  pub source_number : sound_xics (four 2 0x0000000500010000 0x100000 0x000007FF00000001) ≡ false
  pub source_twice : sound_xics (four 2 0x0000000500010000 7 0x000007FF00000001) ≡ false
  -- a source's word: bit 43, and a destination that is no server
  pub bit43 : sound_xics (four 2 0x0000000500010000 0xFFFFF 0x0000080000000001) ≡ false
  pub destination : sound_xics (four 2 0x0000000500010000 0xFFFFF 0x000007FF00000003) ≡ false
  -- the numbers of rows
  pub servers : sound_xics (laid 65 0 [] []) ≡ false
  pub sources : sound_xics (laid 0 65 [] []) ≡ false
