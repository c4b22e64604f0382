-- A frame's bits as a shift register of sixteen: which number it is, and that its bits are the frame's, high past them. Assumes nothing.
use Prim.Native.Nat.{ℕ, zero, suc, ◌+◌, ◌-◌, ◌*◌, ◌/◌, ◌%◌, ◌^◌, ◌≤◌, ◌<◌}
use mathlib.Core.Path.{◌≡◌, refl, sym, ◌∙◌}
use mathlib.Core.Bool.{Bool, true, false, not, ◌&&◌, true≢false}
use mathlib.Core.List.{List, [], ◌∷◌, ◌++◌, append_assoc}
use native.Mathlib.Omega.{arith}
use native.Mathlib.Decide.{dec_lt}
use native.Mathlib.Nat.{mul-add, mul-one, zero-add, mod-lt, mod-eq_of_lt}
use lib.Dec.{eqb, ltb}
use lib.ListN.{length, replicate, get_or, length-append, get_or-eq_default}
use lib.Pow.{pow-add, pow_mono, pow_pos}
use borrow.Author.Tests.{lt-ltb, le-ltb}
use Rattle.format.specs.declared.format.Format.{Format}
use Rattle.frame.specs.declared.levels.FrameBits.{FrameBits}
use Rattle.format.specs.Pick.{pick}
use Rattle.format.specs.Digits.{value_of}
use Rattle.format.specs.Parity.{data_bits, has_parity_of, parity_bit_of, parity_bits}
use Rattle.frame.specs.Levels.{before_stop, frame_bits_of, level_of}
use Rattle.format.proofs.Laws.Pick.{pick_yes, pick_no}
use Rattle.format.proofs.Laws.Digits.{length_bits, value_bits, value_append, value_highs, value_at}

padded : (bs : List Bool) (m i : ℕ) → i < length bs + m → get_or (bs ++ replicate m true) i false ≡ get_or bs i true
padded [] zero i h = absurd (omega arith)
padded [] (suc m) zero h = refl
padded [] (suc m) (suc i) h = padded [] m i (omega arith)
padded (b ∷ bs) m zero h = refl
padded (b ∷ bs) m (suc i) h = padded bs m i (omega arith)

-- a bit of the register is that bit of the frame, and high past the frame's bits
pub register_at : (f : Format) (x i : ℕ) → length (before_stop f x) ≤ 16 → level_of (frame_bits_of f x) (record { 0 = i }) ≡ get_or (before_stop f x) i true
unfolding level_of frame_bits_of
register_at f x i l = go (dec_lt i 16)
  where
    go : Dec (i < 16) → pick (ltb i 16) (eqb ((frame_bits_of f x).0 / 2 ^ i % 2) 1) true ≡ get_or (before_stop f x) i true
    go (yes h) =
        let m : ℕ = 16 - length (before_stop f x) in
        pick_yes (ltb i 16) _ true (lt-ltb i 16 h) ∙ sym (value_at (before_stop f x ++ replicate m true) i) ∙ padded (before_stop f x) m i (omega arith)
    go (no h) = pick_no (ltb i 16) _ true (le-ltb i 16 (omega arith)) ∙ sym (get_or-eq_default (before_stop f x) true (omega arith))

-- the places past the data, all high: one step short of the whole register
tops : (w m : ℕ) → w + m ≡ 15 → 2 ^ w * value_of (replicate m true) + 2 ^ w ≡ 32768
tops w m whole =
    let v : ℕ = value_of (replicate m true) in
    let sum : 2 ^ w * (v + 1) ≡ 2 ^ w * v + 2 ^ w = mul-add (2 ^ w) v 1 ∙ rw mul-one in
    sym sum ∙ rw (value_highs m, ← pow-add 2 w m, whole)

-- and with the first of them low: two steps short
lows : (w m : ℕ) → w + suc m ≡ 15 → 2 ^ w * value_of (false ∷ replicate m true) + (2 ^ w + 2 ^ w) ≡ 32768
unfolding value_of
lows w m whole =
    let t = tops w (suc m) whole in
    let v : ℕ = value_of (replicate m true) in
    let high : 2 ^ w * (1 + 2 * v) ≡ 2 ^ w + 2 ^ w * (2 * v) = mul-add (2 ^ w) 1 (2 * v) ∙ rw mul-one in
    rw zero-add (omega arith)

-- start bit, data, and what stands past the data
parts : (f : Format) (x : ℕ) (ps : List Bool) → parity_bits f x ≡ ps
    → (frame_bits_of f x).0 ≡ 2 * (x % 2 ^ f.width.0 + 2 ^ f.width.0 * value_of (ps ++ replicate (16 - suc (f.width.0 + length ps)) true))
unfolding frame_bits_of before_stop value_of
parts f x ps e =
    let m : ℕ = 16 - suc (f.width.0 + length ps) in
    rw (
      zero-add,
      e,
      length-append (data_bits f x) ps,
      length_bits,
      append_assoc (data_bits f x) ps (replicate m true),
      value_append (data_bits f x) (ps ++ replicate m true),
      length_bits,
      value_bits,
    )

-- The register's number, in steps of the first place past the data: one step short of the whole, and one more where that place is a low parity bit.
abbrev pub parity_low : Format → ℕ → Bool
parity_low f x = has_parity_of f && not (parity_bit_of f x)

module _ (f : Format) (x : ℕ) (narrow : f.width.0 ≤ 8) where
  abbrev step : ℕ
  step = 2 * 2 ^ f.width.0

  abbrev shifted : ℕ
  shifted = 2 * (x % 2 ^ f.width.0)

  past-high : (t p : Bool) → has_parity_of f ≡ t → parity_bit_of f x ≡ p → t && not p ≡ false → (frame_bits_of f x).0 + step ≡ 65536 + shifted
  unfolding parity_bits
  past-high false p e h l =
      let t = tops f.width.0 (16 - suc (f.width.0 + 0)) (omega arith) in
      let r = parts f x [] (pick_no (has_parity_of f) _ _ e) in
      omega arith
  past-high true true e h l =
      let t = tops f.width.0 (suc (16 - suc (f.width.0 + 1))) (omega arith) in
      let r = parts f x (true ∷ []) (pick_yes (has_parity_of f) _ _ e ∙ rw h) in
      omega arith
  past-high true false e h l = absurd (true≢false l)

  past-low : (t p : Bool) → has_parity_of f ≡ t → parity_bit_of f x ≡ p → t && not p ≡ true → (frame_bits_of f x).0 + step + step ≡ 65536 + shifted
  unfolding parity_bits
  past-low false p e h l = absurd (true≢false (sym l))
  past-low true true e h l = absurd (true≢false (sym l))
  past-low true false e h l =
      let t = lows f.width.0 (16 - suc (f.width.0 + 1)) (omega arith) in
      let r = parts f x (false ∷ []) (pick_yes (has_parity_of f) _ _ e ∙ rw h) in
      omega arith

  pub register-high : parity_low f x ≡ false → (frame_bits_of f x).0 + step ≡ 65536 + shifted
  register-high = past-high (has_parity_of f) (parity_bit_of f x) refl refl

  pub register-low : parity_low f x ≡ true → (frame_bits_of f x).0 + step + step ≡ 65536 + shifted
  register-low = past-low (has_parity_of f) (parity_bit_of f x) refl refl

-- what the code's sums need of the weight past the data, and of the data
pub record Weight (w x : ℕ) : Type 0 where
  pub shift : 2 * 2 ^ w % 2 ^ 32 ≡ 2 * 2 ^ w
  pub most : 2 * 2 ^ w ≤ 512
  pub above : x % 2 ^ w < 2 ^ w

pub weight : (w x : ℕ) → w ≤ 8 → Weight w x
weight w x h =
    let small : 2 ^ w ≤ 2 ^ 8 = pow_mono h in
    record { shift = mod-eq_of_lt (omega arith); most = omega arith; above = mod-lt x (pow_pos w) }

pub register_eq : (n : ℕ) (r : FrameBits) → n ≡ r.0 → ◌≡◌ {A = FrameBits} (record { 0 = n }) r
register_eq n r e = rw e
