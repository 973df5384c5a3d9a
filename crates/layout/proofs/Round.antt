-- Decoding what was stored gives the machine back; past the tables the bytes are as they were.
use Prim.Native.Nat.{ℕ, ◌+◌, ◌*◌, ◌^◌, ◌≤◌, ◌<◌}
use native.Mathlib.Nat.{mul-le-mul_right}
use native.Mathlib.Omega.{arith}
use mathlib.Core.Path.{◌≡◌, refl, sym, ap, ap₂, ◌∙◌}
use mathlib.Core.List.{List, [], ◌++◌, append-nil}
use lib.ListN.{length, get_or, take, drop}
use lib.Dec.{lit<}
use Rattle.lists.proofs.All.{All, none, more, all_append, all_take, all_drop}
use Rattle.words.specs.Words.{le_at, put_at, rows_of, bytes_all, bytes_of}
use Rattle.words.proofs.Laws.{length-put_at, drop-put_at-here, drop-put_at-past}
use Rattle.words.proofs.Rows.{length-bytes_all, rows_back}
use Rattle.words.proofs.Back.{words_back}
use Rattle.words.proofs.Bytes.{Bytes, bytes_of-bytes, bytes_all-bytes}
use Rattle.guest.specs.declared.Region.{Region}
use Rattle.guest.specs.declared.Bank.{Bank}
use Rattle.guest.specs.declared.Vcpu.{Vcpu}
use Rattle.guest.specs.Machine.{Machine, shared_count}
use Rattle.guest.specs.Words.{Words, RegionWords, VcpuWords, BankWords}
use Rattle.layout.specs.Layout.{size, memory_of, control_of, frames_of, tables_of, region_of, region_bytes, region_words, vcpu_of, vcpu_bytes, vcpu_words, bank_of, bank_bytes, bank_words, head_words, head_bytes, decode, stored}
use Rattle.layout.specs.Sizes.{region_sized, vcpu_sized, bank_sized}
use Rattle.layout.proofs.Sizes.{head_sized}

-- number k of a run of numbers that nothing follows
word_of : (n : ℕ) (ws : List ℕ) (k : ℕ) → All (λ w. w < 256 ^ n) ws → k < length ws → le_at (bytes_all (bytes_of n) ws) (k * n) n ≡ get_or ws k 0
word_of n ws k a h = ap (λ (t : List ℕ). le_at t (k * n) n) (sym (append-nil (bytes_all (bytes_of n) ws))) ∙ words_back n ws [] k a h

region_back : (r : Region) → RegionWords r → region_of (region_bytes r) ≡ r
unfolding region_of region_bytes
region_back r w =
    let at : (k : ℕ) → k < 2 → le_at (bytes_all (bytes_of 8) (region_words r)) (k * 8) 8 ≡ get_or (region_words r) k 0 =
    λ k h. word_of 8 (region_words r) k (more w.base (more w.count none)) h in
    λ i. record { base = at 0 (lit< tt) i; count = at 1 (lit< tt) i }

bank_back : (b : Bank) → BankWords b → bank_of (bank_bytes b) ≡ b
unfolding bank_of bank_bytes
bank_back b w =
    let at : (k : ℕ) → k < 3 → le_at (bytes_all (bytes_of 4) (bank_words b)) (k * 4) 4 ≡ get_or (bank_words b) k 0 =
    λ k h. word_of 4 (bank_words b) k (more w.latch (more w.level (more w.trigger none))) h in
    λ i. record { latch = at 0 (lit< tt) i; level = at 1 (lit< tt) i; trigger = at 2 (lit< tt) i }

vcpu_back : (v : Vcpu) → VcpuWords v → vcpu_of (vcpu_bytes v) ≡ v
unfolding vcpu_of vcpu_bytes
vcpu_back v w =
    let b = w.bank in
    let at : (k : ℕ) → k < 5 → le_at (bytes_all (bytes_of 4) (vcpu_words v)) (k * 4) 4 ≡ get_or (vcpu_words v) k 0 =
    λ k h. word_of 4 (vcpu_words v) k (more w.affinity (more b.latch (more b.level (more b.trigger (more w.status none))))) h in
    λ i. record {
      affinity = at 0 (lit< tt) i;
      bank = record { latch = at 1 (lit< tt) i; level = at 2 (lit< tt) i; trigger = at 3 (lit< tt) i };
      status = at 4 (lit< tt) i;
    }

-- the rows of each table are within the room for them
pub record Room (m : Machine) : Type 0 where
  pub regions : length m.regions ≤ 32
  pub vcpus : length m.vcpus ≤ 64
  pub shared : length m.shared ≤ 31

-- n rows of z bytes, at most c of them, take at most c * z bytes
rows_within : {A : Type 0} (b : A → List ℕ) (z : ℕ) → ((x : A) → length (b x) ≡ z) → (l : List A) (c : ℕ) → length l ≤ c → length (bytes_all b l) ≤ c * z
rows_within b z sized l c h = let e = length-bytes_all b z sized l in let f : length l * z ≤ c * z = mul-le-mul_right z h in omega arith

module _ (m : Machine) (s : List ℕ) (h : length s ≡ size) (room : Room m) where
  bs₀ : List ℕ
  bs₀ = bytes_all bank_bytes m.shared

  vs₀ : List ℕ
  vs₀ = bytes_all vcpu_bytes m.vcpus

  rs₀ : List ℕ
  rs₀ = bytes_all region_bytes m.regions

  hs₀ : List ℕ
  hs₀ = head_bytes m

  b_long : length bs₀ ≤ 372
  unfolding bs₀
  b_long = rows_within bank_bytes 12 bank_sized m.shared 31 room.shared

  v_long : length vs₀ ≤ 1280
  unfolding vs₀
  v_long = rows_within vcpu_bytes 20 vcpu_sized m.vcpus 64 room.vcpus

  r_long : length rs₀ ≤ 512
  unfolding rs₀
  r_long = rows_within region_bytes 16 region_sized m.regions 32 room.regions

  t : List ℕ
  t = put_at s 1976 bs₀

  u : List ℕ
  u = put_at t 696 vs₀

  v : List ℕ
  v = put_at u 184 rs₀

  is_stored : stored m s ≡ put_at v 0 hs₀
  unfolding stored t u v bs₀ vs₀ rs₀ hs₀
  is_stored = refl

  t_long : length t ≡ size
  unfolding t
  t_long = let a = b_long in length-put_at s 1976 bs₀ (omega arith) ∙ h

  u_long : length u ≡ size
  unfolding u
  u_long = let a = v_long in let e = t_long in length-put_at t 696 vs₀ (omega arith) ∙ t_long

  v_whole : length v ≡ size
  unfolding v
  v_whole = let a = r_long in let e = u_long in length-put_at u 184 rs₀ (omega arith) ∙ u_long

  pub length_stored : length (stored m s) ≡ size
  unfolding hs₀
  length_stored =
      let e = v_whole in
      let f = head_sized m in
      ap length is_stored ∙ length-put_at v 0 hs₀ (omega arith) ∙ v_whole

  head_past : (k : ℕ) → 184 ≤ k → k ≤ size → drop k (stored m s) ≡ drop k v
  unfolding hs₀
  head_past k a b =
      let e = v_whole in
      let f = head_sized m in
      ap (drop k) is_stored ∙ drop-put_at-past v 0 hs₀ k (omega arith) (omega arith)

  regions_past : (k : ℕ) → 696 ≤ k → k ≤ size → drop k v ≡ drop k u
  unfolding v
  regions_past k a b = let e = u_long in let f = r_long in drop-put_at-past u 184 rs₀ k (omega arith) (omega arith)

  vcpus_past : (k : ℕ) → 1976 ≤ k → k ≤ size → drop k u ≡ drop k t
  unfolding u
  vcpus_past k a b = let e = t_long in let f = v_long in drop-put_at-past t 696 vs₀ k (omega arith) (omega arith)

  -- what lies past the tables is as it was
  pub past_stored : (k : ℕ) → 2348 ≤ k → k ≤ size → drop k (stored m s) ≡ drop k s
  unfolding t
  past_stored k a b =
      let f = b_long in
      head_past k (omega arith) b ∙ regions_past k (omega arith) b ∙ vcpus_past k (omega arith) b
      ∙ drop-put_at-past s 1976 bs₀ k (omega arith) (omega arith)

  at_shared : drop 1976 (stored m s) ≡ bs₀ ++ drop (1976 + length bs₀) s
  unfolding t
  at_shared =
      head_past 1976 (omega arith) (omega arith) ∙ regions_past 1976 (omega arith) (omega arith) ∙ vcpus_past 1976 (omega arith) (omega arith)
      ∙ drop-put_at-here s 1976 bs₀ (omega arith)

  at_vcpus : drop 696 (stored m s) ≡ vs₀ ++ drop (696 + length vs₀) t
  unfolding u
  at_vcpus =
      let e = t_long in
      head_past 696 (omega arith) (omega arith) ∙ regions_past 696 (omega arith) (omega arith) ∙ drop-put_at-here t 696 vs₀ (omega arith)

  at_regions_lem : drop 184 (stored m s) ≡ rs₀ ++ drop (184 + length rs₀) u
  unfolding v
  at_regions_lem = let e = u_long in head_past 184 (omega arith) (omega arith) ∙ drop-put_at-here u 184 rs₀ (omega arith)

  at_head : stored m s ≡ hs₀ ++ drop (0 + length hs₀) v
  at_head = is_stored ∙ drop-put_at-here v 0 hs₀ (omega arith)

  module _ (w : Words m) where
    abbrev words : List ℕ
    words = head_words m.memory m.control m.frames m.tables (length m.regions) (length m.vcpus)

    all_words : All (λ x. x < 256 ^ 8) words
    all_words =
        let r = w.memory in
        let c = w.control in
        let f = w.frames in
        let d = w.tables.devices in
        let k = w.tables.collections in
        let a = room.regions in
        let b = room.vcpus in
        let few : length m.regions < 256 ^ 8 = omega arith in
        let fits : length m.vcpus < 256 ^ 8 = omega arith in
        more r.width (more r.start (more r.length
        (more c.init (more c.running (more c.irqs (more c.irqsset (more c.status (more c.itsinit
        (more f.distributor.set (more f.distributor.base (more f.single.set (more f.single.base (more f.its.set (more f.its.base
        (more d.set (more d.start (more d.pages (more k.set (more k.start (more k.pages
        (more few (more fits none))))))))))))))))))))))

    word_at : (k : ℕ) → k < 23 → le_at (stored m s) (k * 8) 8 ≡ get_or words k 0
    unfolding hs₀ head_bytes
    word_at k g = ap (λ (x : List ℕ). le_at x (k * 8) 8) at_head ∙ words_back 8 words (drop (0 + length hs₀) v) k all_words g

    regions_back : rows_of region_of 16 (le_at (stored m s) 168 8) (drop 184 (stored m s)) ≡ m.regions
    unfolding rs₀
    regions_back =
        ap₂ (λ (n : ℕ) (x : List ℕ). rows_of region_of 16 n x) (word_at 21 (lit< tt)) at_regions_lem
        ∙ rows_back region_bytes 16 region_sized region_of RegionWords region_back m.regions _ w.regions

    vcpus_back : rows_of vcpu_of 20 (le_at (stored m s) 176 8) (drop 696 (stored m s)) ≡ m.vcpus
    unfolding vs₀
    vcpus_back =
        ap₂ (λ (n : ℕ) (x : List ℕ). rows_of vcpu_of 20 n x) (word_at 22 (lit< tt)) at_vcpus
        ∙ rows_back vcpu_bytes 20 vcpu_sized vcpu_of VcpuWords vcpu_back m.vcpus _ w.vcpus

    module _ (e : length m.shared ≡ shared_count m.control.irqs) where
      shared_back : rows_of bank_of 12 (shared_count (le_at (stored m s) 40 8)) (drop 1976 (stored m s)) ≡ m.shared
      unfolding bs₀
      shared_back =
          ap₂ (λ (n : ℕ) (x : List ℕ). rows_of bank_of 12 n x) (ap shared_count (word_at 5 (lit< tt)) ∙ sym e) at_shared
          ∙ rows_back bank_bytes 12 bank_sized bank_of BankWords bank_back m.shared _ w.shared

      pub decode_stored : decode (stored m s) ≡ m
      unfolding decode memory_of control_of frames_of tables_of
      decode_stored =
          let rs = regions_back in
          let vs = vcpus_back in
          let bs = shared_back in
          λ i. record {
            memory = record { width = word_at 0 (lit< tt) i; start = word_at 1 (lit< tt) i; length = word_at 2 (lit< tt) i };
            control = record {
              init = word_at 3 (lit< tt) i;
              running = word_at 4 (lit< tt) i;
              irqs = word_at 5 (lit< tt) i;
              irqsset = word_at 6 (lit< tt) i;
              status = word_at 7 (lit< tt) i;
              itsinit = word_at 8 (lit< tt) i;
            };
            frames = record {
              distributor = record { set = word_at 9 (lit< tt) i; base = word_at 10 (lit< tt) i };
              single = record { set = word_at 11 (lit< tt) i; base = word_at 12 (lit< tt) i };
              its = record { set = word_at 13 (lit< tt) i; base = word_at 14 (lit< tt) i };
            };
            regions = rs i;
            vcpus = vs i;
            shared = bs i;
            tables = record {
              devices = record { set = word_at 15 (lit< tt) i; start = word_at 16 (lit< tt) i; pages = word_at 17 (lit< tt) i };
              collections = record { set = word_at 18 (lit< tt) i; start = word_at 19 (lit< tt) i; pages = word_at 20 (lit< tt) i };
            };
          }

-- storing bytes among bytes gives bytes
bytes-put_at : (s : List ℕ) (at : ℕ) (bs : List ℕ) → Bytes s → Bytes bs → Bytes (put_at s at bs)
unfolding put_at
bytes-put_at s at bs a b = all_append (take at s ++ bs) (all_append (take at s) (all_take at s a) b) (all_drop (at + length bs) s a)

pub bytes_stored : (m : Machine) (s : List ℕ) → Bytes s → Bytes (stored m s)
unfolding stored head_bytes region_bytes vcpu_bytes bank_bytes
bytes_stored m s a =
    bytes-put_at _ 0 _ (bytes-put_at _ 184 _ (bytes-put_at _ 696 _ (bytes-put_at s 1976 _ a
    (bytes_all-bytes _ (λ b. bytes_all-bytes (bytes_of 4) (bytes_of-bytes 4) (bank_words b)) m.shared))
    (bytes_all-bytes _ (λ v. bytes_all-bytes (bytes_of 4) (bytes_of-bytes 4) (vcpu_words v)) m.vcpus))
    (bytes_all-bytes _ (λ r. bytes_all-bytes (bytes_of 8) (bytes_of-bytes 8) (region_words r)) m.regions))
    (bytes_all-bytes (bytes_of 8) (bytes_of-bytes 8) _)
