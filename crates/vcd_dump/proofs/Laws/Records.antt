-- A list of bytes as records: the first is made of the first three bytes, and there are as many as three goes into the length. By
-- induction on the list, three bytes at a time. Assumes nothing.
use Prim.Native.Nat.{ℕ, zero, suc, ◌+◌, ◌*◌, ◌/◌, ◌<◌}
use mathlib.Core.Path.{◌≡◌, refl, ◌∙◌, ap}
use mathlib.Core.List.{List, [], ◌∷◌}
use native.Mathlib.Omega.{arith}
use lib.Dec.{eqb}
use lib.ListN.{length, drop, get_or, length-drop, length-map}
use lib.Seq.{drop-cons}
use borrow.Author.Tests.{ne_eqb}
use Rattle.format.specs.Pick.{pick}
use Rattle.chip_fast.specs.Fast.{is_tick}
use Rattle.records.specs.declared.records.EventRecord.{EventRecord}
use Rattle.records.specs.Records.{event_of}
use Rattle.std.specs.Simd.{first_chunks}
use Rattle.text.proofs.Laws.Chunks.{piece_byte}
use Rattle.vcd_dump.specs.Waves.{records_of, events_of}
use Rattle.vcd_dump.specs.Wave.{record_at}

-- three bytes as a record
abbrev pub record_of : List ℕ → EventRecord
record_of piece = record { kind = get_or piece 0 0; reg = get_or piece 1 0; byte = get_or piece 2 0 }

three : (bytes : List ℕ) (n : ℕ) → n + 2 < length bytes
    → drop n bytes ≡ get_or bytes n 0 ∷ get_or bytes (n + 1) 0 ∷ get_or bytes (n + 2) 0 ∷ drop (n + 3) bytes
three bytes n h =
    let one : suc n ≡ n + 1 = omega arith in
    let two : suc (n + 1) ≡ n + 2 = omega arith in
    let more : suc (n + 2) ≡ n + 3 = omega arith in
    drop-cons bytes n 0 (omega arith)
    ∙ ap (λ (l : List ℕ). get_or bytes n 0 ∷ l)
    (rw one (drop-cons bytes (n + 1) 0 (omega arith)
    ∙ ap (λ (l : List ℕ). get_or bytes (n + 1) 0 ∷ l) (rw two (drop-cons bytes (n + 2) 0 (omega arith) ∙ rw more))))

-- the record that is next, and those after it
pub next_record : (bytes : List ℕ) (i : ℕ) → 3 * i + 2 < length bytes
    → records_of (drop (3 * i) bytes) ≡ record_at bytes i ∷ records_of (drop (3 * (i + 1)) bytes)
unfolding records_of
next_record bytes i h =
    let e : 3 * i + 3 ≡ 3 * (i + 1) = omega arith in
    ap records_of (three bytes (3 * i) h) ∙ rw e

short : (bytes : List ℕ) → length bytes < 3 → records_of bytes ≡ []
unfolding records_of
short [] h = refl
short (a ∷ []) h = refl
short (a ∷ b ∷ []) h = refl
short (a ∷ b ∷ c ∷ bytes) h = absurd (omega arith)

-- one or two bytes that are left over are no record
pub no_record : (bytes : List ℕ) (i : ℕ) → length bytes < 3 * i + 3 → records_of (drop (3 * i) bytes) ≡ []
no_record bytes i h = short (drop (3 * i) bytes) (simp length-drop (omega arith))

pub records_length : (bytes : List ℕ) → length (records_of bytes) ≡ length bytes / 3
unfolding records_of
records_length [] = refl
records_length (a ∷ []) = refl
records_length (a ∷ b ∷ []) = refl
records_length (a ∷ b ∷ c ∷ bytes) = let h = records_length bytes in omega arith

pub events_length : (bytes : List ℕ) → length (events_of bytes) ≡ length bytes / 3
events_length bytes = length-map (records_of bytes) event_of ∙ records_length bytes

-- the record that a piece of three bytes makes
pub piece_record : (bytes : List ℕ) (count i : ℕ) (pieces : List (List ℕ)) → pieces ≡ first_chunks 3 count bytes → i < count
    → record_of (get_or pieces i []) ≡ record_at bytes i
piece_record bytes count i pieces e h =
    let first : 3 * i + 0 ≡ 3 * i = omega arith in
    rw (
      e,
      piece_byte 3 count i 0 bytes h (omega arith),
      piece_byte 3 count i 1 bytes h (omega arith),
      piece_byte 3 count i 2 bytes h (omega arith),
      first,
    )

other_kind : (k r b : ℕ) → 5 < k → is_tick (event_of (record { kind = k; reg = r; byte = b })) ≡ eqb k 5
unfolding is_tick event_of pick
other_kind k r b h =
    rw (
      ne_eqb k 0 (λ (z : k ≡ 0). omega arith),
      ne_eqb k 1 (λ (z : k ≡ 1). omega arith),
      ne_eqb k 2 (λ (z : k ≡ 2). omega arith),
      ne_eqb k 3 (λ (z : k ≡ 3). omega arith),
      ne_eqb k 4 (λ (z : k ≡ 4). omega arith),
      ne_eqb k 5 (λ (z : k ≡ 5). omega arith),
    )

-- kind 5 is a tick, and no other
tick_kind : (k r b : ℕ) → is_tick (event_of (record { kind = k; reg = r; byte = b })) ≡ eqb k 5
unfolding is_tick event_of pick
tick_kind zero r b = refl
tick_kind (suc zero) r b = refl
tick_kind (suc (suc zero)) r b = refl
tick_kind (suc (suc (suc zero))) r b = refl
tick_kind (suc (suc (suc (suc zero)))) r b = refl
tick_kind (suc (suc (suc (suc (suc zero))))) r b = refl
tick_kind (suc (suc (suc (suc (suc (suc k)))))) r b = other_kind (suc (suc (suc (suc (suc (suc k)))))) r b (omega arith)

pub record_ticks : (e : EventRecord) → is_tick (event_of e) ≡ eqb e.kind 5
record_ticks e = tick_kind e.kind e.reg e.byte
