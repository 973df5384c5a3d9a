-- How many bytes each row takes: the law of the rows in src/lib.rt.
use Rattle.std.specs.Prelude.{◌≡◌, length}
use Rattle.words.specs.Words.{bytes_of}
use Rattle.words.proofs.Laws.{length-bytes_of}
use Rattle.words.proofs.Rows.{length-bytes_all}
use Rattle.guest.specs.declared.Region.{Region}
use Rattle.guest.specs.declared.Bank.{Bank}
use Rattle.guest.specs.declared.Vcpu.{Vcpu}
use Rattle.layout.specs.Layout.{region_bytes, region_words, vcpu_bytes, vcpu_words, bank_bytes, bank_words}

-- Inner: the bytes of a region's row
pub region_sized : (r : Region) → length (region_bytes r) ≡ 16
unfolding region_bytes
region_sized r = length-bytes_all (bytes_of 8) 8 (length-bytes_of 8) (region_words r)

-- Inner: the bytes of a VCPU's row
pub vcpu_sized : (v : Vcpu) → length (vcpu_bytes v) ≡ 20
unfolding vcpu_bytes
vcpu_sized v = length-bytes_all (bytes_of 4) 4 (length-bytes_of 4) (vcpu_words v)

-- Inner: the bytes of a bank's row
pub bank_sized : (b : Bank) → length (bank_bytes b) ≡ 12
unfolding bank_bytes
bank_sized b = length-bytes_all (bytes_of 4) 4 (length-bytes_of 4) (bank_words b)
