-- What is written is read: a number in decimal as that number, a line as that line. By induction on the places, and on the lines. Assumes nothing.
use Prim.Native.Nat.{ℕ, zero, suc, ◌+◌, ◌-◌, ◌*◌, ◌/◌, ◌%◌, ◌^◌, ◌≤◌, ◌<◌}
use mathlib.Core.Path.{◌≡◌, refl, sym, ◌∙◌, ap}
use mathlib.Core.Bool.{Bool, true, false, or-false, or-true, false≢true}
use mathlib.Core.List.{List, [], ◌∷◌, ◌++◌, append-nil, append_assoc}
use native.Mathlib.Nat.{pow-succ'}
use native.Mathlib.Omega.{arith}
use lib.Dec.{eqb, ltb}
use borrow.Author.Tests.{ne_eqb, lt-ltb, le-leb, ltb-true, ltb-false}
use Rattle.format.specs.Pick.{pick}
use Rattle.format.specs.Digits.{digit_of}
use Rattle.text.specs.Decimal.{decimal_of}
use Rattle.text.proofs.Laws.Decimal.{decimal_last, decimal_more}
use Rattle.vcd_text.specs.Lines.{Line, line_text, lines_text}
use Rattle.vcd_text.specs.Lines.Line.{Time, Value}
use Rattle.vcd_lines.specs.declared.body.Place.{Place}
use Rattle.vcd_lines.specs.declared.body.Place.TheVariants.{LineStart, Hash, Digits, Whole, Level, Code}
use Rattle.vcd_lines.specs.declared.body.Reading.{Reading}
use Rattle.vcd_lines.specs.declared.body.Said.TheVariants.{NoLine}
use Rattle.text.specs.Numbers.{digit}
use Rattle.vcd_lines.specs.Body.{begun, first_digit, next_digit, must_end, coded, taken_of, said_of, line_of, read_all, lines_read}

-- a reading in a place, after a time or before the first
abbrev pub at : Place → Bool → Reading
at p timed = record { place = p; timed = timed }

-- ---- one piece after the other ----

module _ (known : ℕ → Bool) where
  read-append : (r : Reading) (xs ys : List ℕ) → read_all known r (xs ++ ys) ≡ read_all known (read_all known r xs) ys
  unfolding read_all
  read-append r [] ys = refl
  read-append r (x ∷ xs) ys = read-append (taken_of r x (known x)) xs ys

  lines_append : (r : Reading) (xs ys : List ℕ) → lines_read known r (xs ++ ys) ≡ lines_read known r xs ++ lines_read known (read_all known r xs) ys
  unfolding read_all lines_read
  lines_append r [] ys = refl
  lines_append r (x ∷ xs) ys =
      rw (lines_append (taken_of r x (known x)) xs ys) (sym (append_assoc (line_of (said_of r x)) _ _))

  read_one : (r : Reading) (x : ℕ) → (read_all known r (x ∷ []) ≡ taken_of r x (known x)) × (lines_read known r (x ∷ []) ≡ line_of (said_of r x))
  unfolding read_all lines_read
  read_one r x = (refl, append-nil (line_of (said_of r x)))

  -- ---- a number ----

  -- the place in this time, or after the time 0
  abbrev in_number : ℕ → Place
  in_number n = pick (eqb n 0) (Whole 0) (Digits n)

  no_line : (r : Reading) (b : ℕ) → (b ≡ 10 → ⊥) → line_of (said_of r b) ≡ []
  unfolding said_of pick
  no_line r b h = rw (ne_eqb b 10 h)

  digit-is : (d : ℕ) → d < 10 → digit (48 + d) ≡ true
  digit-is d h = rw (lt-ltb 47 (48 + d) (omega arith), lt-ltb (48 + d) 58 (omega arith))

  first-digit : (t : Bool) (n : ℕ) (k : Bool) → n < 10 → taken_of (at Hash t) (48 + n) k ≡ at (in_number n) t
  unfolding taken_of first_digit pick
  first-digit t zero k h = rw or-false
  first-digit t (suc n) k h =
      let e : 48 + suc n - 48 ≡ suc n = omega arith in
      rw (or-false, ne_eqb (48 + suc n) 48 (λ (z : 48 + suc n ≡ 48). omega arith), digit-is (suc n) h, e, ne_eqb (suc n) 0 (λ (z : suc n ≡ 0). omega arith))

  next-digit : (t : Bool) (m d : ℕ) (k : Bool) → d < 10 → m * 10 + d ≤ 4000000000 → taken_of (at (Digits m) t) (48 + d) k ≡ at (Digits (m * 10 + d)) t
  unfolding taken_of next_digit pick
  next-digit t m d k h l =
      let e : 48 + d - 48 ≡ d = omega arith in
      rw (ne_eqb (48 + d) 10 (λ (z : 48 + d ≡ 10). omega arith), or-false, digit-is d h, le-leb m 400000000 (omega arith), e, le-leb (m * 10 + d) 4000000000 l)

  -- two readings one after the other, the first of which ends no line
  record Reads (from : Reading) (text : List ℕ) (to : Reading) (ls : List Line) : Type 0 where
    reading : read_all known from text ≡ to
    said : lines_read known from text ≡ ls

  reads_then : {a b c : Reading} {xs ys : List ℕ} {ls ms : List Line} → Reads a xs b ls → Reads b ys c ms → Reads a (xs ++ ys) c (ls ++ ms)
  reads_then {a} {b} {c} {xs} {ys} p q =
      record {
        reading = read-append a xs ys ∙ (rw p.reading q.reading);
        said = lines_append a xs ys ∙ (rw (p.reading, p.said, q.said));
      }

  reads-one : (a : Reading) (x : ℕ) (b : Reading) (ls : List Line) → taken_of a x (known x) ≡ b → line_of (said_of a x) ≡ ls → Reads a (x ∷ []) b ls
  reads-one a x b ls e f = let (r, s) = read_one a x in record { reading = r ∙ e; said = s ∙ f }

  one-digit : (k : ℕ) (t : Bool) (n : ℕ) → n < 10 → Reads (at Hash t) (decimal_of (suc k) n) (at (in_number n) t) []
  one-digit k t n h =
      rw (decimal_last (suc k) n (λ (z : suc k ≡ 0). omega arith) h)
      (reads-one (at Hash t) (48 + n) (at (in_number n) t) [] (first-digit t n _ h)
      (no_line (at Hash t) (48 + n) (λ (z : 48 + n ≡ 10). omega arith)))

  in-number : (n : ℕ) → (n ≡ 0 → ⊥) → in_number n ≡ Digits n
  unfolding pick
  in-number n h = rw (ne_eqb n 0 h)

  more-digits : (k : ℕ) (t : Bool) (n : ℕ) → 10 ≤ n → n ≤ 4000000000 → Reads (at Hash t) (decimal_of (suc k) (n / 10)) (at (in_number (n / 10)) t) []
      → Reads (at Hash t) (decimal_of (suc (suc k)) n) (at (in_number n) t) []
  more-digits k t n h bound p =
      let whole : n / 10 * 10 + n % 10 ≡ n = omega arith in
      let e : suc (suc k) - 1 ≡ suc k = omega arith in
      let first : in_number (n / 10) ≡ Digits (n / 10) = in-number (n / 10) (λ (z : n / 10 ≡ 0). omega arith) in
      let last : taken_of (at (in_number (n / 10)) t) (48 + n % 10) (known (48 + n % 10)) ≡ at (in_number n) t =
      rw (first, next-digit t (n / 10) (n % 10) (known (48 + n % 10)) (omega arith) (omega arith), whole, in-number n (λ (z : n ≡ 0). omega arith)) refl in
      rw (decimal_more (suc (suc k)) n (λ (z : suc (suc k) ≡ 0). omega arith) h, e)
      (reads_then p
      (reads-one (at (in_number (n / 10)) t) (48 + n % 10) (at (in_number n) t) [] last
      (no_line (at (in_number (n / 10)) t) (48 + n % 10) (λ (z : 48 + n % 10 ≡ 10). omega arith))))

  digits-read : (k : ℕ) (t : Bool) (n : ℕ) → n < 10 ^ suc k → n ≤ 4000000000 → Reads (at Hash t) (decimal_of (suc k) n) (at (in_number n) t) []
  digits-read zero t n fits bound = one-digit 0 t n fits
  digits-read (suc k) t n fits bound = go (digits-read k t (n / 10) less (omega arith)) (ltb n 10) refl
    where
      less : n / 10 < 10 ^ suc k
      less = let f : n < 10 * 10 ^ suc k = rw (pow-succ' 10 (suc k)) at fits in omega arith

      go : Reads (at Hash t) (decimal_of (suc k) (n / 10)) (at (in_number (n / 10)) t) [] → (x : Bool) → ltb n 10 ≡ x → Reads (at Hash t) (decimal_of (suc (suc k)) n) (at (in_number n) t) []
      go p true e = one-digit (suc k) t n (ltb-true n 10 e)
      go p false e = more-digits k t n (ltb-false n 10 e) bound p

  -- ---- a line ----

  -- a time's end, after its last digit
  time-ends : (t : Bool) (n : ℕ) → Reads (at (in_number n) t) (10 ∷ []) (at LineStart true) (Time n ∷ [])
  unfolding taken_of must_end next_digit said_of pick
  time-ends t zero = reads-one (at (Whole 0) t) 10 (at LineStart true) (Time 0 ∷ []) (rw or-true) refl
  time-ends t (suc n) =
      rw (in-number (suc n) (λ (z : suc n ≡ 0). omega arith))
      (reads-one (at (Digits (suc n)) t) 10 (at LineStart true) (Time (suc n) ∷ []) (rw or-true) refl)

  hash-begins : (t k : Bool) → (taken_of (at LineStart t) 35 k ≡ at Hash t) × (line_of (said_of (at LineStart t) 35) ≡ [])
  unfolding taken_of begun said_of pick
  hash-begins t k = (rw or-false, refl)

  time-line : (t : Bool) (n : ℕ) → n ≤ 4000000000 → Reads (at LineStart t) (line_text (Time n)) (at LineStart true) (Time n ∷ [])
  unfolding line_text
  time-line t n h =
      let (a, b) = hash-begins t (known 35) in
      reads_then (reads-one (at LineStart t) 35 (at Hash t) [] a b)
      (reads_then (digits-read 19 t n (omega arith) h) (time-ends t n))

  -- a value line after a time, of a code that the header has
  value-begins : (v k : Bool) → (taken_of (at LineStart true) (digit_of v) k ≡ at (Level v) true) × (line_of (said_of (at LineStart true) (digit_of v)) ≡ [])
  unfolding taken_of begun said_of pick digit_of
  value-begins true k = (refl, refl)
  value-begins false k = (refl, refl)

  code-follows : (c : ℕ) (v : Bool) → (taken_of (at (Level v) true) c true ≡ at (Code v c) true) × (line_of (said_of (at (Level v) true) c) ≡ [])
  unfolding taken_of coded said_of pick
  code-follows c v = (refl, go (eqb c 10))
    where
      go : (t : Bool) → line_of (pick t NoLine NoLine) ≡ []
      go true = refl
      go false = refl

  value-ends : (c : ℕ) (v k : Bool) → (taken_of (at (Code v c) true) 10 k ≡ at LineStart true) × (line_of (said_of (at (Code v c) true) 10) ≡ Value c v ∷ [])
  unfolding taken_of must_end said_of pick
  value-ends c v k = (refl, refl)

  value_line : (c : ℕ) (v : Bool) → known c ≡ true → Reads (at LineStart true) (line_text (Value c v)) (at LineStart true) (Value c v ∷ [])
  unfolding line_text
  value_line c v e =
      let (a, b) = value-begins v (known (digit_of v)) in
      let (f, g) = code-follows c v in
      let (p, q) = value-ends c v (known 10) in
      reads_then (reads-one (at LineStart true) (digit_of v) (at (Level v) true) [] a b)
      (reads_then (reads-one (at (Level v) true) c (at (Code v c) true) [] (rw e f) g) (reads-one (at (Code v c) true) 10 (at LineStart true) (Value c v ∷ []) p q))

  -- ---- lines ----

  -- lines that a reader takes: times up to 4,000,000,000 ns, and after a time values of the header's codes
  unfoldable pub readable : Bool → List Line → Type 0
  readable timed [] = Unit {0}
  readable timed (Time t ∷ ls) = (t ≤ 4000000000) × readable true ls
  readable timed (Value c v ∷ ls) = (timed ≡ true) × ((known c ≡ true) × readable timed ls)

  pub lines-read : (ls : List Line) (t : Bool) → readable t ls
      → (lines_read known (at LineStart t) (lines_text ls) ≡ ls) × ((read_all known (at LineStart t) (lines_text ls)).place ≡ LineStart)
  unfolding lines_text lines_read read_all readable
  lines-read [] t h = (refl, refl)
  lines-read (Time n ∷ ls) t (h, hs) =
      let p = time-line t n h in
      let (a, b) = lines-read ls true hs in (
        lines_append (at LineStart t) (line_text (Time n)) (lines_text ls) ∙ rw (p.reading, p.said, a),
        ap (λ (q : Reading). q.place) (read-append (at LineStart t) (line_text (Time n)) (lines_text ls)) ∙ rw p.reading b,
      )
  lines-read (Value c v ∷ ls) true (h, (k, hs)) =
      let p = value_line c v k in
      let (a, b) = lines-read ls true hs in (
        lines_append (at LineStart true) (line_text (Value c v)) (lines_text ls) ∙ rw (p.reading, p.said, a),
        ap (λ (q : Reading). q.place) (read-append (at LineStart true) (line_text (Value c v)) (lines_text ls)) ∙ rw p.reading b,
      )
  lines-read (Value c v ∷ ls) false (h, (k, hs)) = absurd (false≢true h)
