-- What is read as lines was written as those lines: the bytes of a line so far are told by the reading, byte by byte. By induction on the bytes. Assumes nothing.
use Prim.Native.Nat.{ℕ, zero, suc, ◌+◌, ◌-◌, ◌*◌, ◌/◌, ◌%◌, ◌^◌, ◌≤◌, ◌<◌}
use mathlib.Core.Path.{◌≡◌, refl, sym, ◌∙◌, ap}
use mathlib.Core.Bool.{Bool, true, false, ◌&&◌, ◌||◌, or-false, or-true, true≢false, false≢true}
use mathlib.Core.List.{List, [], ◌∷◌, ◌++◌, append_assoc}
use native.Mathlib.Nat.{pow-succ'}
use native.Mathlib.Omega.{arith}
use lib.Dec.{eqb, ltb, leb}
use borrow.Author.Tests.{ne_eqb, eqb-true, eqb-false, lt-ltb, ltb-true, leb-true}
use Rattle.format.specs.Pick.{pick}
use Rattle.format.specs.Digits.{digit_of}
use Rattle.text.specs.Decimal.{decimal_of}
use Rattle.text.proofs.Laws.Decimal.{decimal_last, decimal_more}
use Rattle.vcd_text.specs.Lines.{Line, line_text, lines_text}
use Rattle.vcd_text.specs.Lines.Line.{Time, Value}
use Rattle.vcd_lines.specs.declared.body.Place.{Place}
use Rattle.vcd_lines.specs.declared.body.Place.TheVariants.{LineStart, Hash, Digits, Whole, Level, Code, Outside}
use Rattle.vcd_lines.specs.declared.body.Reading.{Reading}
use Rattle.vcd_lines.specs.declared.body.Said.TheVariants.{NoLine}
use Rattle.text.specs.Numbers.{digit}
use Rattle.vcd_lines.specs.Body.{at_start, begun, first_digit, next_digit, must_end, coded, place_after, in_time, taken_of, line_at, said_of, line_of, read_all, lines_read}
use Rattle.vcd_lines.proofs.Laws.Reads.{at, readable}
use Rattle.vcd_subset.proofs.Wires.{both}

-- ---- decimals of twenty places are those of fewer, where these suffice ----

decimal_fits : (k n : ℕ) → n < 10 ^ suc k → decimal_of (suc (suc k)) n ≡ decimal_of (suc k) n
unfolding decimal_of pick
decimal_fits zero n h = rw (lt-ltb' n (omega arith))
  where
    lt-ltb' : (n : ℕ) → n < 10 → ltb n 10 ≡ true
    lt-ltb' n l = lt-ltb n 10 l
decimal_fits (suc k) n h = rw (decimal_fits k (n / 10) less)
  where
    less : n / 10 < 10 ^ suc k
    less = let f : n < 10 * 10 ^ suc k = rw (pow-succ' 10 (suc k)) at h in omega arith

-- one digit more
digit_more : (t d : ℕ) → 0 < t → t < 10 ^ 19 → d < 10 → decimal_of 20 (t * 10 + d) ≡ decimal_of 20 t ++ (48 + d) ∷ []
digit_more t d p l h =
    let q : (t * 10 + d) / 10 ≡ t = omega arith in
    let r : (t * 10 + d) % 10 ≡ d = omega arith in
    decimal_more 20 (t * 10 + d) (λ (z : ◌≡◌ {A = ℕ} 20 0). omega arith) (omega arith)
    ∙ rw (q, r, decimal_fits 18 t l)

-- no line has begun at the start of one alone
pub start_only : (p : Place) → at_start p ≡ true → p ≡ LineStart
start_only LineStart e = refl
start_only Hash e = absurd (false≢true e)
start_only (Digits n) e = absurd (false≢true e)
start_only (Whole n) e = absurd (false≢true e)
start_only (Level v) e = absurd (false≢true e)
start_only (Code v c) e = absurd (false≢true e)
start_only Outside e = absurd (false≢true e)

module _ (known : ℕ → Bool) where
  -- the bytes of its line so far, by the place where a reading stands, and what is known of it there
  so_far : Place → List ℕ
  so_far LineStart = []
  so_far Hash = 35 ∷ []
  so_far (Digits n) = 35 ∷ decimal_of 20 n
  so_far (Whole n) = 35 ∷ decimal_of 20 n
  so_far (Level v) = digit_of v ∷ []
  so_far (Code v c) = digit_of v ∷ c ∷ []
  so_far Outside = []

  Stands : Place → Bool → Type 0
  Stands (Digits n) t = (0 < n) × (n ≤ 4000000000)
  Stands (Whole n) t = n ≤ 4000000000
  Stands (Level v) t = t ≡ true
  Stands (Code v c) t = (t ≡ true) × (known c ≡ true)
  Stands Outside t = ⊥
  Stands p t = Unit {0}

  abbrev Back : Place → Bool → List ℕ → Type 0
  Back p t bs = (so_far p ++ bs ≡ lines_text (lines_read known (at p t) bs)) × readable known t (lines_read known (at p t) bs)

  abbrev Ends : List ℕ → Type 0
  Ends bs = (p : Place) (t : Bool) → Stands p t → (read_all known (at p t) bs).place ≡ LineStart → Back p t bs

  -- outside the subset a reading stays there
  stays_out : (bs : List ℕ) (t : Bool) → (read_all known (at Outside t) bs).place ≡ Outside
  unfolding read_all taken_of
  stays_out [] t = refl
  stays_out (b ∷ bs) t = stays_out bs (t || false)

  out : {A : Type 0} (bs : List ℕ) (t : Bool) → (read_all known (at Outside t) bs).place ≡ LineStart → A
  out bs t h = absurd (apart (sym (stays_out bs t) ∙ h))
    where
      apart : Outside ≡ LineStart → ⊥
      apart e = cc

  -- ---- one byte ----

  lines_next : (r : Reading) (b : ℕ) (bs : List ℕ)
      → lines_read known r (b ∷ bs) ≡ line_of (said_of r b) ++ lines_read known (taken_of r b (known b)) bs
  unfolding lines_read
  lines_next r b bs = refl

  -- a byte that ends no time's line
  step : (p q : Place) (t : Bool) (b : ℕ) → place_after p t b (known b) ≡ q → (in_time p && eqb b 10) ≡ false → taken_of (at p t) b (known b) ≡ at q t
  unfolding taken_of
  step p q t b e f = rw (e, f, or-false)

  -- one that ends no line leads to a place further on in it
  moves : (p q : Place) (t : Bool) (b : ℕ) (bs : List ℕ) → taken_of (at p t) b (known b) ≡ at q t → line_of (said_of (at p t) b) ≡ []
      → so_far p ++ b ∷ [] ≡ so_far q → Stands q t → Ends bs → (read_all known (at p t) (b ∷ bs)).place ≡ LineStart → Back p t (b ∷ bs)
  unfolding read_all
  moves p q t b bs e quiet text stands ih h =
      let h' : (read_all known (at q t) bs).place ≡ LineStart = ap (λ (x : Reading). (read_all known x bs).place) (sym e) ∙ h in
      let (written, good) = ih q t stands h' in
      let l : lines_read known (at p t) (b ∷ bs) ≡ lines_read known (at q t) bs = lines_next (at p t) b bs ∙ rw (quiet, e) in (
        sym (append_assoc (so_far p) (b ∷ []) bs) ∙ rw (text, l) written,
        rw l good,
      )

  -- one that ends a line
  ends : (p : Place) (t u : Bool) (b : ℕ) (bs : List ℕ) (l : Line) → taken_of (at p t) b (known b) ≡ at LineStart u → line_of (said_of (at p t) b) ≡ l ∷ []
      → so_far p ++ b ∷ [] ≡ line_text l → ((ls : List Line) → readable known u ls → readable known t (l ∷ ls))
      → Ends bs → (read_all known (at p t) (b ∷ bs)).place ≡ LineStart → Back p t (b ∷ bs)
  unfolding read_all lines_text so_far Stands
  ends p t u b bs l e said text takes ih h =
      let h' : (read_all known (at LineStart u) bs).place ≡ LineStart = ap (λ (x : Reading). (read_all known x bs).place) (sym e) ∙ h in
      let (written, good) = ih LineStart u tt h' in
      let ls : lines_read known (at p t) (b ∷ bs) ≡ l ∷ lines_read known (at LineStart u) bs = lines_next (at p t) b bs ∙ rw (said, e) in (
        sym (append_assoc (so_far p) (b ∷ []) bs) ∙ rw (text, ls) (ap (λ (x : List ℕ). line_text l ++ x) written),
        rw ls (takes (lines_read known (at LineStart u) bs) good),
      )

  -- one that leads outside
  leaves : {A : Type 0} (p : Place) (t : Bool) (b : ℕ) (bs : List ℕ) → place_after p t b (known b) ≡ Outside → (in_time p && eqb b 10) ≡ false
      → (read_all known (at p t) (b ∷ bs)).place ≡ LineStart → A
  unfolding read_all
  leaves p t b bs e f h = out bs t (ap (λ (x : Reading). (read_all known x bs).place) (sym (step p Outside t b e f)) ∙ h)

  -- only a time or a value line ends, and no digit ends it
  quiet_at : (p : Place) (t : Bool) (b : ℕ) → line_at p ≡ NoLine → line_of (said_of (at p t) b) ≡ []
  unfolding said_of pick
  quiet_at p t b e = rw e (go (eqb b 10))
    where
      go : (x : Bool) → line_of (pick x NoLine NoLine) ≡ []
      go true = refl
      go false = refl

  digit-bounds : (b : ℕ) → digit b ≡ true → (48 ≤ b) × (b < 58)
  digit-bounds b h =
      let (l, m) = both (ltb 47 b) (ltb b 58) h in
      let x = ltb-true 47 b l in
      (omega arith, ltb-true b 58 m)

  no_end : (b : ℕ) → digit b ≡ true → eqb b 10 ≡ false
  no_end b h = let l = (digit-bounds b h).0 in ne_eqb b 10 (λ (z : b ≡ 10). omega arith)

  quiet-digit : (r : Reading) (b : ℕ) → digit b ≡ true → line_of (said_of r b) ≡ []
  unfolding said_of pick
  quiet-digit r b h = rw (no_end b h)

  -- ---- where a line begins ----

  begun_level : (v : Bool) → begun (digit_of v) true ≡ Level v
  unfolding begun pick digit_of
  begun_level true = refl
  begun_level false = refl

  start-out : (b : ℕ) (t : Bool) → eqb b 35 ≡ false → (t && (eqb b 48 || eqb b 49)) ≡ false → begun b t ≡ Outside
  unfolding begun pick
  start-out b t f g = rw (f, g)

  at-start : (t : Bool) (b : ℕ) (bs : List ℕ) → Ends bs → (read_all known (at LineStart t) (b ∷ bs)).place ≡ LineStart → Back LineStart t (b ∷ bs)
  unfolding so_far Stands digit_of begun pick
  at-start t b bs ih h = go (eqb b 35) refl
    where
      quiet : line_of (said_of (at LineStart t) b) ≡ []
      quiet = quiet_at LineStart t b refl

      level : (v : Bool) → b ≡ digit_of v → t ≡ true → Back LineStart t (b ∷ bs)
      level v is e =
          moves LineStart (Level v) t b bs (step LineStart (Level v) t b (rw (is, e) (begun_level v)) refl) quiet (rw is) e ih h

      value : (x : Bool) → t ≡ x → (y : Bool) → eqb b 48 ≡ y → (z : Bool) → eqb b 49 ≡ z → eqb b 35 ≡ false → Back LineStart t (b ∷ bs)
      value true e true y z q f = level false (eqb-true b 48 y) e
      value true e false y true z f = level true (eqb-true b 49 z) e
      value true e false y false z f = leaves LineStart t b bs (start-out b t f (rw (e, y, z))) refl h
      value false e y p z q f = leaves LineStart t b bs (start-out b t f (rw e)) refl h

      go : (x : Bool) → eqb b 35 ≡ x → Back LineStart t (b ∷ bs)
      go true f = moves LineStart Hash t b bs (step LineStart Hash t b (rw f) refl) quiet (rw (eqb-true b 35 f)) tt ih h
      go false f = value t refl (eqb b 48) refl (eqb b 49) refl f

  -- ---- in a time ----

  at-hash : (t : Bool) (b : ℕ) (bs : List ℕ) → Ends bs → (read_all known (at Hash t) (b ∷ bs)).place ≡ LineStart → Back Hash t (b ∷ bs)
  unfolding so_far Stands first_digit pick
  at-hash t b bs ih h = go (eqb b 48) refl (digit b) refl
    where
      quiet : line_of (said_of (at Hash t) b) ≡ []
      quiet = quiet_at Hash t b refl

      go : (x : Bool) → eqb b 48 ≡ x → (d : Bool) → digit b ≡ d → Back Hash t (b ∷ bs)
      go true z d q =
          moves Hash (Whole 0) t b bs (step Hash (Whole 0) t b (rw z) refl) quiet
          (rw (eqb-true b 48 z, decimal_last 20 0 (λ (x : ◌≡◌ {A = ℕ} 20 0). omega arith) (omega arith))) (omega arith) ih h
      go false z true q =
          let (l, m) = digit-bounds b q in
          let n = eqb-false b 48 z in
          let w : 48 + (b - 48) ≡ b = omega arith in
          let some : 0 < b - 48 = omega (arith, n) in
          moves Hash (Digits (b - 48)) t b bs (step Hash (Digits (b - 48)) t b (rw (z, q)) refl) quiet
          (rw (decimal_last 20 (b - 48) (λ (x : ◌≡◌ {A = ℕ} 20 0). omega arith) (omega arith), w)) (some, omega arith) ih h
      go false z false q = leaves Hash t b bs (rw (z, q)) refl h

  number-digit : (n b : ℕ) → digit b ≡ true → leb n 400000000 ≡ true → leb (n * 10 + (b - 48)) 4000000000 ≡ true
      → next_digit n b ≡ Digits (n * 10 + (b - 48))
  unfolding next_digit pick
  number-digit n b d l m = rw (d, l, m)

  number-much : (n b : ℕ) → digit b ≡ true → (leb n 400000000 && leb (n * 10 + (b - 48)) 4000000000) ≡ false → next_digit n b ≡ Outside
  unfolding next_digit pick
  number-much n b d l = rw d (go (leb n 400000000) (leb (n * 10 + (b - 48)) 4000000000) l)
    where
      go : (x y : Bool) → (x && y) ≡ false → pick x (pick y (Digits (n * 10 + (b - 48))) Outside) Outside ≡ Outside
      go true true h = absurd (true≢false h)
      go true false h = refl
      go false y h = refl

  number-ends : (n : ℕ) (t k : Bool) → (taken_of (at (Digits n) t) 10 k ≡ at LineStart true) × (line_of (said_of (at (Digits n) t) 10) ≡ Time n ∷ [])
  unfolding taken_of next_digit must_end said_of pick
  number-ends n t k = (rw or-true, refl)

  number-out : (n b : ℕ) → digit b ≡ false → eqb b 10 ≡ false → next_digit n b ≡ Outside
  unfolding next_digit must_end pick
  number-out n b d e = rw (d, e)

  -- a time's line, whatever follows it
  time-good : (n : ℕ) (t : Bool) → n ≤ 4000000000 → (ls : List Line) → readable known true ls → readable known t (Time n ∷ ls)
  unfolding readable
  time-good n t h ls g = (h, g)

  time-text : (n : ℕ) → 35 ∷ decimal_of 20 n ++ 10 ∷ [] ≡ line_text (Time n)
  unfolding line_text
  time-text n = refl

  at-number : (n : ℕ) (t : Bool) (b : ℕ) (bs : List ℕ) → 0 < n → n ≤ 4000000000 → Ends bs
      → (read_all known (at (Digits n) t) (b ∷ bs)).place ≡ LineStart → Back (Digits n) t (b ∷ bs)
  unfolding so_far Stands
  at-number n t b bs some few ih h = go (digit b) refl (eqb b 10) refl
    where
      more : (x : Bool) → leb n 400000000 ≡ x → (y : Bool) → leb (n * 10 + (b - 48)) 4000000000 ≡ y → digit b ≡ true → Back (Digits n) t (b ∷ bs)
      more true x true y d =
          let (l, m) = digit-bounds b d in
          let w : 48 + (b - 48) ≡ b = omega arith in
          moves (Digits n) (Digits (n * 10 + (b - 48))) t b bs (step (Digits n) _ t b (number-digit n b d x y) (no_end b d)) (quiet-digit (at (Digits n) t) b d)
          (ap (λ (l : List ℕ). 35 ∷ l) (sym (digit_more n (b - 48) some (omega arith) (omega arith) ∙ rw w)))
          (omega arith, leb-true (n * 10 + (b - 48)) 4000000000 y) ih h
      more true x false y d = leaves (Digits n) t b bs (number-much n b d (rw (x, y))) (no_end b d) h
      more false x y q d = leaves (Digits n) t b bs (number-much n b d (rw x)) (no_end b d) h

      go : (d : Bool) → digit b ≡ d → (e : Bool) → eqb b 10 ≡ e → Back (Digits n) t (b ∷ bs)
      go true d e q = more (leb n 400000000) refl (leb (n * 10 + (b - 48)) 4000000000) refl d
      go false d true q =
          let is = eqb-true b 10 q in
          let (e, s) = number-ends n t (known b) in
          ends (Digits n) t true b bs (Time n) (ap (λ (x : ℕ). taken_of (at (Digits n) t) x (known b)) is ∙ e)
          (ap (λ (x : ℕ). line_of (said_of (at (Digits n) t) x)) is ∙ s) (rw is (time-text n)) (time-good n t few) ih h
      go false d false q = leaves (Digits n) t b bs (number-out n b d q) q h

  whole-ends : (n : ℕ) (t k : Bool) → (taken_of (at (Whole n) t) 10 k ≡ at LineStart true) × (line_of (said_of (at (Whole n) t) 10) ≡ Time n ∷ [])
  unfolding taken_of must_end said_of pick
  whole-ends n t k = (rw or-true, refl)

  end-out : (b : ℕ) → eqb b 10 ≡ false → must_end b ≡ Outside
  unfolding must_end pick
  end-out b e = rw e

  at_whole : (n : ℕ) (t : Bool) (b : ℕ) (bs : List ℕ) → n ≤ 4000000000 → Ends bs
      → (read_all known (at (Whole n) t) (b ∷ bs)).place ≡ LineStart → Back (Whole n) t (b ∷ bs)
  unfolding so_far Stands
  at_whole n t b bs few ih h = go (eqb b 10) refl
    where
      go : (x : Bool) → eqb b 10 ≡ x → Back (Whole n) t (b ∷ bs)
      go true q =
          let is = eqb-true b 10 q in
          let (e, s) = whole-ends n t (known b) in
          ends (Whole n) t true b bs (Time n) (ap (λ (x : ℕ). taken_of (at (Whole n) t) x (known b)) is ∙ e)
          (ap (λ (x : ℕ). line_of (said_of (at (Whole n) t) x)) is ∙ s) (rw is (time-text n)) (time-good n t few) ih h
      go false q = leaves (Whole n) t b bs (end-out b q) q h

  -- ---- in a value line ----

  at_level : (v t : Bool) (b : ℕ) (bs : List ℕ) → t ≡ true → Ends bs → (read_all known (at (Level v) t) (b ∷ bs)).place ≡ LineStart → Back (Level v) t (b ∷ bs)
  unfolding so_far Stands coded pick
  at_level v t b bs e ih h = go (known b) refl
    where
      go : (k : Bool) → known b ≡ k → Back (Level v) t (b ∷ bs)
      go true k = moves (Level v) (Code v b) t b bs (step (Level v) (Code v b) t b (rw k) refl) (quiet_at (Level v) t b refl) refl (e, k) ih h
      go false k = leaves (Level v) t b bs (rw k) refl h

  code-ends : (v : Bool) (c : ℕ) (t k : Bool) → (taken_of (at (Code v c) t) 10 k ≡ at LineStart t) × (line_of (said_of (at (Code v c) t) 10) ≡ Value c v ∷ [])
  unfolding taken_of must_end said_of pick
  code-ends v c t k = (rw or-false, refl)

  value-good : (v : Bool) (c : ℕ) (t : Bool) → t ≡ true → known c ≡ true → (ls : List Line) → readable known t ls → readable known t (Value c v ∷ ls)
  unfolding readable
  value-good v c t e k ls g = (e, (k, g))

  value-text : (v : Bool) (c : ℕ) → digit_of v ∷ c ∷ 10 ∷ [] ≡ line_text (Value c v)
  unfolding line_text
  value-text v c = refl

  at_code : (v : Bool) (c : ℕ) (t : Bool) (b : ℕ) (bs : List ℕ) → t ≡ true → known c ≡ true → Ends bs
      → (read_all known (at (Code v c) t) (b ∷ bs)).place ≡ LineStart → Back (Code v c) t (b ∷ bs)
  unfolding so_far Stands
  at_code v c t b bs e k ih h = go (eqb b 10) refl
    where
      go : (x : Bool) → eqb b 10 ≡ x → Back (Code v c) t (b ∷ bs)
      go true q =
          let is = eqb-true b 10 q in
          let (u, s) = code-ends v c t (known b) in
          ends (Code v c) t t b bs (Value c v) (ap (λ (x : ℕ). taken_of (at (Code v c) t) x (known b)) is ∙ u)
          (ap (λ (x : ℕ). line_of (said_of (at (Code v c) t) x)) is ∙ s) (rw is (value-text v c)) (value-good v c t e k) ih h
      go false q = leaves (Code v c) t b bs (end-out b q) refl h

  -- ---- the whole ----

  -- where no byte is left, no line has begun
  at-end : (p : Place) (t : Bool) → p ≡ LineStart → Back p t []
  unfolding so_far lines_read lines_text readable
  at-end p t e = (rw e, tt)

  at_byte : (b : ℕ) (bs : List ℕ) → Ends bs → Ends (b ∷ bs)
  unfolding Stands
  at_byte b bs ih LineStart t s h = at-start t b bs ih h
  at_byte b bs ih Hash t s h = at-hash t b bs ih h
  at_byte b bs ih (Digits n) t (s, m) h = at-number n t b bs s m ih h
  at_byte b bs ih (Whole n) t s h = at_whole n t b bs s ih h
  at_byte b bs ih (Level v) t s h = at_level v t b bs s ih h
  at_byte b bs ih (Code v c) t (s, k) h = at_code v c t b bs s k ih h
  at_byte b bs ih Outside t s h = absurd s

  all_read : (bs : List ℕ) → Ends bs
  unfolding read_all
  all_read [] = λ p t s h. at-end p t h
  all_read (b ∷ bs) = at_byte b bs (all_read bs)

  -- What is read as lines to its end was written as those lines, and they are such as a reader takes.
  pub body_back : (bs : List ℕ) (t : Bool) → (read_all known (at LineStart t) bs).place ≡ LineStart
      → (bs ≡ lines_text (lines_read known (at LineStart t) bs)) × readable known t (lines_read known (at LineStart t) bs)
  unfolding so_far Stands
  body_back bs t h = all_read bs LineStart t tt h
