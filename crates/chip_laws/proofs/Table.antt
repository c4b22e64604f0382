-- The table of answers: the number is the first of rows 1 to 7 that applies, sought one after the other, and 0 where none does; so it names a row
-- that applies with none before it, and there is one such row at most. What is answered then is read off the step. Assumes nothing.
use Prim.Native.Nat.{ℕ, zero, suc, ◌+◌, ◌≤◌, ◌<◌}
use mathlib.Core.Path.{◌≡◌, refl, sym, ◌∙◌, ap}
use mathlib.Core.Bool.{Bool, true, false, true≢false}
use native.Mathlib.Decide.{dec_lt}
use native.Mathlib.Omega.{arith}
use lib.Dec.{eqb, eqb-suc-zero}
use borrow.Author.Tests.{ne_eqb}
use Rattle.format.specs.Pick.{pick}
use Rattle.events.specs.declared.events.Event.{Event}
use Rattle.chip_device.specs.declared.device.Device.{Device}
use Rattle.chip_step.specs.declared.chip.Answer.{Answer}
use Rattle.chip_step.specs.Chip.{taken_of, number_of, refusal_lines, refused_of, accepted_of, step_of}
use Rattle.chip_refusals.specs.Refusals.{first_of}
use Rattle.chip_laws.specs.Table.{Step, row, First, Table}

-- ---- the first of some rows ----

-- the first of `n` rows from row `k` on that applies, 0 where none does
unfoldable seek : (ℕ → Bool) → ℕ → ℕ → ℕ
seek r k zero = 0
seek r k (suc n) = pick (r k) k (seek r (suc k) n)

-- none of `n` rows from row `k` on applies
abbrev Free : (ℕ → Bool) → ℕ → ℕ → Type 0
Free r k n = (j : ℕ) → k ≤ j → j < n → r j ≡ false

-- what is found: none, or one with none before it
data Found (r : ℕ → Bool) (k n : ℕ) : ℕ → Type 0 where
  nowhere : Free r k (k + n) → Found r k n 0
  at : (m : ℕ) → k ≤ m → m < k + n → r m ≡ true → Free r k m → Found r k n m

-- free from the next on, and here
from_here : (r : ℕ → Bool) (k n : ℕ) → r k ≡ false → Free r (suc k) n → Free r k n
from_here r k n e f j a b = go (dec_lt k j)
  where
    go : Dec (k < j) → r j ≡ false
    go (yes h) = f j h b
    go (no h) = let z : j ≡ k = omega arith in rw z e

found_next : (r : ℕ → Bool) (k n m : ℕ) → r k ≡ false → Found r (suc k) n m → Found r k (suc n) m
found_next r k n m e (nowhere f) = nowhere (from_here r k (k + suc n) e (λ j a b. f j a (omega arith)))
found_next r k n _ e (at m a b t f) = at m (omega arith) (omega arith) t (from_here r k m e f)

found : (r : ℕ → Bool) (k n : ℕ) → Found r k n (seek r k n)
unfolding seek pick
found r k zero = nowhere (λ j a b. absurd (omega arith))
found r k (suc n) = go (r k) refl (found r (suc k) n)
  where
    go : (t : Bool) → r k ≡ t → Found r (suc k) n (seek r (suc k) n) → Found r k (suc n) (pick t k (seek r (suc k) n))
    go true e x = at k (omega arith) (omega arith) e (λ j a b. absurd (omega arith))
    go false e x = found_next r k n (seek r (suc k) n) e x

-- ---- rows 1 to 7 ----

-- there is no row 0 and none above 7
no_row : (d : Device) (e : Event) → row 0 d e ≡ false
unfolding row pick
no_row d e = refl

pub no_more_rows : (d : Device) (e : Event) (k : ℕ) → 7 < k → row k d e ≡ false
unfolding row pick
no_more_rows d e k h =
    rw (
      ne_eqb k 1 (omega arith),
      ne_eqb k 2 (omega arith),
      ne_eqb k 3 (omega arith),
      ne_eqb k 4 (omega arith),
      ne_eqb k 5 (omega arith),
      ne_eqb k 6 (omega arith),
      ne_eqb k 7 (omega arith),
    )

abbrev rows : Device → Event → ℕ → Bool
rows d e k = row k d e

number_found : (d : Device) (e : Event) → Found (rows d e) 1 7 (number_of d e)
unfolding number_of first_of row seek pick
number_found d e = found (rows d e) 1 7

-- two rows that apply with none before them are one
one_first : (d : Device) (e : Event) (k m : ℕ) → First k d e → First m d e → m ≡ k
one_first d e k m x y = go (dec_lt k m) (dec_lt m k)
  where
    go : Dec (k < m) → Dec (m < k) → m ≡ k
    go (yes h) j = absurd (true≢false (sym x.applies ∙ y.earlier k h))
    go (no h) (yes j) = absurd (true≢false (sym y.applies ∙ x.earlier m j))
    go (no h) (no j) = omega arith

-- the number is 0 and no row applies, or it is a row that applies first
data Numbered (d : Device) (e : Event) : ℕ → Type 0 where
  none : ((k : ℕ) → row k d e ≡ false) → Numbered d e 0
  some : (m : ℕ) → 0 < m → First m d e → Numbered d e m

number_told : (d : Device) (e : Event) → Numbered d e (number_of d e)
number_told d e = go (number_found d e)
  where
    below : (m : ℕ) → Free (rows d e) 1 m → (j : ℕ) → j < m → row j d e ≡ false
    below m f zero h = no_row d e
    below m f (suc j) h = f (suc j) (omega arith) h

    anywhere : Free (rows d e) 1 8 → (k : ℕ) → Dec (k < 8) → row k d e ≡ false
    anywhere f k (yes h) = below 8 f k h
    anywhere f k (no h) = no_more_rows d e k (omega arith)

    go : {m : ℕ} → Found (rows d e) 1 7 m → Numbered d e m
    go (nowhere f) = none (λ k. anywhere f k (dec_lt k 8))
    go (at m a b t f) = some m a (record { applies = t; earlier = below m f })

-- ---- what is answered ----

step_number : (d : Device) (e : Event) → (step_of d e).number ≡ number_of d e
unfolding step_of pick
step_number d e = go (number_of d e)
  where
    go : (n : ℕ) → (pick (eqb n 0) (accepted_of (taken_of d e)) (refused_of d n)).number ≡ n
    go zero = refl
    go (suc n) = rw (eqb-suc-zero n)

pub step_taken : (d : Device) (e : Event) → (step_of d e).number ≡ 0 → step_of d e ≡ accepted_of (taken_of d e)
unfolding step_of pick
step_taken d e h = let z : number_of d e ≡ 0 = sym (step_number d e) ∙ h in rw z

pub step_refused : (d : Device) (e : Event) → ((step_of d e).number ≡ 0 → ⊥) → step_of d e ≡ refused_of d (step_of d e).number
unfolding step_of pick
step_refused d e h = let z : number_of d e ≡ 0 → ⊥ = λ x. h (step_number d e ∙ x) in rw (step_number d e, ne_eqb (number_of d e) 0 z)

step_told : (d : Device) (e : Event) → Numbered d e (step_of d e).number
step_told d e = rw (step_number d e) (number_told d e)

step_given : (k : ℕ) (d : Device) (e : Event) → First k d e → (step_of d e).number ≡ k
step_given k d e x = go (step_told d e)
  where
    go : {n : ℕ} → Numbered d e n → n ≡ k
    go (none f) = absurd (true≢false (sym x.applies ∙ f k))
    go (some m z y) = one_first d e k m x y

step_only : (d : Device) (e : Event) → ((step_of d e).number ≡ 0 → ⊥) → First (step_of d e).number d e
step_only d e h = go (step_told d e) h
  where
    go : {n : ℕ} → Numbered d e n → (n ≡ 0 → ⊥) → First n d e
    go (none f) h = absurd (h refl)
    go (some m z y) h = y

step_accepted : (d : Device) (e : Event) → ((k : ℕ) → row k d e ≡ false) → (step_of d e).number ≡ 0
step_accepted d e h = go (step_told d e)
  where
    go : {n : ℕ} → Numbered d e n → n ≡ 0
    go (none f) = refl
    go (some m z y) = absurd (true≢false (sym y.applies ∙ h m))

step_free : (d : Device) (e : Event) → (step_of d e).number ≡ 0 → (k : ℕ) → row k d e ≡ false
step_free d e h = go (step_told d e) h
  where
    go : {n : ℕ} → Numbered d e n → n ≡ 0 → (k : ℕ) → row k d e ≡ false
    go (none f) h = f
    go (some m z y) h = absurd (omega arith)

pub table : Table step_of
unfolding refusal_lines
table =
    record {
      given = step_given;
      only = step_only;
      accepted = step_accepted;
      free = step_free;
      taken = step_taken;
      silent = λ d e h. ap (λ (x : Answer). x.byte) (step_refused d e h);
      stale = λ d e h. ap (λ (x : Answer). x.fresh) (step_refused d e h);
      unaltered = λ d e h. ap (λ (x : Answer). x.state) (step_refused d e h);
      lines = λ d e h. ap (λ (x : Answer). x.lines) (step_refused d e h);
    }

-- ---- the table leaves no freedom ----

table_refused : (step : Step) → Table step → (d : Device) (e : Event) → ((step d e).number ≡ 0 → ⊥) → step d e ≡ refused_of d (step d e).number
unfolding refusal_lines
table_refused step h d e n = go (step d e) (h.silent d e n) (h.stale d e n) (h.lines d e n) (h.unaltered d e n)
  where
    go : (x : Answer) → x.byte ≡ 0 → x.fresh ≡ false → x.lines ≡ refusal_lines d x.number → x.state ≡ d → x ≡ refused_of d x.number
    go x b f l s =
        let z : record { number = x.number; byte = x.byte; fresh = x.fresh; lines = x.lines; state = x.state } ≡ refused_of d x.number =
        rw (b, f, l, s) in
        z

-- "a second answer fitting the same words is proved equal": a step that meets the table is this one
pub table_one : (step : Step) → Table step → (d : Device) (e : Event) → step d e ≡ step_of d e
table_one step h d e = go (step d e).number refl
  where
    go : (n : ℕ) → (step d e).number ≡ n → step d e ≡ step_of d e
    go zero z = h.taken d e z ∙ sym (step_taken d e (step_accepted d e (h.free d e z)))
    go (suc n) z =
        let refused : (step d e).number ≡ 0 → ⊥ = omega arith in
        let same : (step_of d e).number ≡ (step d e).number = step_given (step d e).number d e (h.only d e refused) in
        table_refused step h d e refused ∙ rw (← same) (sym (step_refused d e (λ y. refused (sym same ∙ y))))
