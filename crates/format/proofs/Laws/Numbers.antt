-- Document 01's numbers of a format, written out: each statement takes what it speaks of, of MR1 and MR2 as the program writes them, so that a
-- wrong table is refuted by it. The lists are computed; parity is the library's count of ones. Assumes nothing.
use Prim.Native.Nat.{ℕ, zero, suc, ◌+◌, ◌/◌, ◌%◌, ◌^◌}
use mathlib.Core.Path.{◌≡◌, refl, sym, ap, ◌∙◌}
use mathlib.Core.Bool.{Bool, true, false, not}
use mathlib.Core.List.{List, [], ◌∷◌}
use native.Mathlib.Omega.{arith}
use native.Mathlib.Nat.{mod-lt, one-le-pow}
use lib.Count.{ones}
use lib.Dec.{eqb}
use borrow.Author.Tests.{ne_eqb}
use Rattle.format.specs.Pick.{pick}
use Rattle.format.specs.Digits.{bits_of, odd_ones}
use Rattle.format.specs.Format.{mr1_not_modelled, mr2_not_modelled, format_of, stop_code_of}
use Rattle.format.specs.Parity.{has_parity_of, parity_bit_of, parity_bits}
use Rattle.format.specs.Stop.{stop_length_of, stop_bits_of}
use Rattle.format.proofs.Laws.Digits.{odd_ones_lem, bits_cut}

-- ---- lists over numbers ----

-- what a table has at n places, from k on
abbrev pub listed : {A : Type 0} → (ℕ → A) → ℕ → ℕ → List A
listed table zero k = []
listed table (suc n) k = table k ∷ listed table n (suc k)

abbrev pub unless : Bool → ℕ → List ℕ → List ℕ
unless true k ks = ks
unless false k ks = k ∷ ks

-- the numbers that a test refuses left out, of n from k on
abbrev pub accepted : (ℕ → Bool) → ℕ → ℕ → List ℕ
accepted refuses zero k = []
accepted refuses (suc n) k = unless (refuses k) k (accepted refuses n (suc k))

-- ---- what is not modelled ----

-- "Not modelled (5): MR1 bit 7 set or bits 4-3 = 11; MR2 .. bit 5 set", order 2: "5 no longer covers MR2 bits 7-6.": the bytes that are
-- accepted, of all 256
pub record Modelled (mr1 mr2 : ℕ → Bool) : Type 0 where
  pub first :
      accepted mr1 256 0
      ≡ 0 ∷ 1 ∷ 2 ∷ 3 ∷ 4 ∷ 5 ∷ 6 ∷ 7 ∷ 8 ∷ 9 ∷ 10 ∷ 11 ∷ 12 ∷ 13 ∷ 14 ∷ 15 ∷ 16 ∷ 17 ∷ 18 ∷ 19 ∷ 20 ∷ 21 ∷ 22 ∷ 23
      ∷ 32 ∷ 33 ∷ 34 ∷ 35 ∷ 36 ∷ 37 ∷ 38 ∷ 39 ∷ 40 ∷ 41 ∷ 42 ∷ 43 ∷ 44 ∷ 45 ∷ 46 ∷ 47 ∷ 48 ∷ 49 ∷ 50 ∷ 51 ∷ 52 ∷ 53 ∷ 54 ∷ 55
      ∷ 64 ∷ 65 ∷ 66 ∷ 67 ∷ 68 ∷ 69 ∷ 70 ∷ 71 ∷ 72 ∷ 73 ∷ 74 ∷ 75 ∷ 76 ∷ 77 ∷ 78 ∷ 79 ∷ 80 ∷ 81 ∷ 82 ∷ 83 ∷ 84 ∷ 85 ∷ 86 ∷ 87
      ∷ 96 ∷ 97 ∷ 98 ∷ 99 ∷ 100 ∷ 101 ∷ 102 ∷ 103 ∷ 104 ∷ 105 ∷ 106 ∷ 107 ∷ 108 ∷ 109 ∷ 110 ∷ 111
      ∷ 112 ∷ 113 ∷ 114 ∷ 115 ∷ 116 ∷ 117 ∷ 118 ∷ 119 ∷ []
  pub second :
      accepted mr2 256 0
      ≡ 0 ∷ 1 ∷ 2 ∷ 3 ∷ 4 ∷ 5 ∷ 6 ∷ 7 ∷ 8 ∷ 9 ∷ 10 ∷ 11 ∷ 12 ∷ 13 ∷ 14 ∷ 15
      ∷ 16 ∷ 17 ∷ 18 ∷ 19 ∷ 20 ∷ 21 ∷ 22 ∷ 23 ∷ 24 ∷ 25 ∷ 26 ∷ 27 ∷ 28 ∷ 29 ∷ 30 ∷ 31
      ∷ 64 ∷ 65 ∷ 66 ∷ 67 ∷ 68 ∷ 69 ∷ 70 ∷ 71 ∷ 72 ∷ 73 ∷ 74 ∷ 75 ∷ 76 ∷ 77 ∷ 78 ∷ 79
      ∷ 80 ∷ 81 ∷ 82 ∷ 83 ∷ 84 ∷ 85 ∷ 86 ∷ 87 ∷ 88 ∷ 89 ∷ 90 ∷ 91 ∷ 92 ∷ 93 ∷ 94 ∷ 95
      ∷ 128 ∷ 129 ∷ 130 ∷ 131 ∷ 132 ∷ 133 ∷ 134 ∷ 135 ∷ 136 ∷ 137 ∷ 138 ∷ 139 ∷ 140 ∷ 141 ∷ 142 ∷ 143
      ∷ 144 ∷ 145 ∷ 146 ∷ 147 ∷ 148 ∷ 149 ∷ 150 ∷ 151 ∷ 152 ∷ 153 ∷ 154 ∷ 155 ∷ 156 ∷ 157 ∷ 158 ∷ 159
      ∷ 192 ∷ 193 ∷ 194 ∷ 195 ∷ 196 ∷ 197 ∷ 198 ∷ 199 ∷ 200 ∷ 201 ∷ 202 ∷ 203 ∷ 204 ∷ 205 ∷ 206 ∷ 207
      ∷ 208 ∷ 209 ∷ 210 ∷ 211 ∷ 212 ∷ 213 ∷ 214 ∷ 215 ∷ 216 ∷ 217 ∷ 218 ∷ 219 ∷ 220 ∷ 221 ∷ 222 ∷ 223 ∷ []

pub modelled : Modelled mr1_not_modelled mr2_not_modelled
modelled = record { first = refl; second = refl }

-- ---- data bits ----

-- "1-0 data bits less 5"
pub record Widths (width : ℕ → ℕ) : Type 0 where
  pub five : (mr1 : ℕ) → mr1 % 4 ≡ 0 → width mr1 ≡ 5
  pub six : (mr1 : ℕ) → mr1 % 4 ≡ 1 → width mr1 ≡ 6
  pub seven : (mr1 : ℕ) → mr1 % 4 ≡ 2 → width mr1 ≡ 7
  pub eight : (mr1 : ℕ) → mr1 % 4 ≡ 3 → width mr1 ≡ 8

pub widths : Widths (λ (mr1 : ℕ). (format_of mr1).width.0)
unfolding format_of
widths =
    record {
      five = λ mr1 e. rw e;
      six = λ mr1 e. rw e;
      seven = λ mr1 e. rw e;
      eight = λ mr1 e. rw e;
    }

-- ---- parity ----

-- "4-3 parity 00 with, 01 forced, 10 none; 2 odd, or forced high": whether there is a bit, and the bits of a byte. With: the ones among the data
-- bits in use and this bit are even in number, or odd.
pub record ParityBits (there : ℕ → Bool) (bits : ℕ → ℕ → List Bool) : Type 0 where
  pub with_there : (mr1 : ℕ) → mr1 / 8 % 4 ≡ 0 → there mr1 ≡ true
  pub forced_there : (mr1 : ℕ) → mr1 / 8 % 4 ≡ 1 → there mr1 ≡ true
  pub none_there : (mr1 : ℕ) → mr1 / 8 % 4 ≡ 2 → there mr1 ≡ false
  pub with_even : (mr1 x : ℕ) → mr1 / 8 % 4 ≡ 0 → mr1 / 4 % 2 ≡ 0 → bits mr1 x ≡ eqb (ones (x % 2 ^ (mr1 % 4 + 5)) % 2) 1 ∷ []
  pub with_odd : (mr1 x : ℕ) → mr1 / 8 % 4 ≡ 0 → mr1 / 4 % 2 ≡ 1 → bits mr1 x ≡ not (eqb (ones (x % 2 ^ (mr1 % 4 + 5)) % 2) 1) ∷ []
  pub forced_low : (mr1 x : ℕ) → mr1 / 8 % 4 ≡ 1 → mr1 / 4 % 2 ≡ 0 → bits mr1 x ≡ false ∷ []
  pub forced_high : (mr1 x : ℕ) → mr1 / 8 % 4 ≡ 1 → mr1 / 4 % 2 ≡ 1 → bits mr1 x ≡ true ∷ []
  pub none : (mr1 x : ℕ) → mr1 / 8 % 4 ≡ 2 → bits mr1 x ≡ []

-- the count of ones is that of the data bits
counted : (w x : ℕ) → odd_ones (bits_of w x) ≡ eqb (ones (x % 2 ^ w) % 2) 1
counted w x = ap odd_ones (sym (bits_cut w x)) ∙ sym (odd_ones_lem w (x % 2 ^ w) (mod-lt x (one-le-pow w 2 (omega arith))))

pub parity_bits_lem : ParityBits (λ (mr1 : ℕ). has_parity_of (format_of mr1)) (λ (mr1 x : ℕ). parity_bits (format_of mr1) x)
unfolding parity_bits parity_bit_of format_of pick
parity_bits_lem =
    record {
      with_there = λ mr1 e. rw e;
      forced_there = λ mr1 e. rw e;
      none_there = λ mr1 e. rw e;
      with_even = λ mr1 x e o. rw (e, o, counted (mr1 % 4 + 5) x);
      with_odd = λ mr1 x e o. rw (e, o, counted (mr1 % 4 + 5) x);
      forced_low = λ mr1 x e o. rw (e, o);
      forced_high = λ mr1 x e o. rw (e, o);
      none = λ mr1 x e. rw e;
    }

-- ---- the stop ----

-- "Stop length in sixteenths: for 5 data bits 17+c; for 6 to 8, 9+c for c up to 7, else 17+c. With a 1X clock: one bit, two if bit 3 is set."
-- By MR1 and MR2: bit 4 of MR2, CTS, changes neither; nor, by order 2, do bits 7-6.
pub record Stops (sixteenths : ℕ → ℕ → ℕ) (whole : ℕ → ℕ) : Type 0 where
  pub five : (mr1 : ℕ) → mr1 % 4 ≡ 0
      → listed (sixteenths mr1) 32 0
      ≡ 17 ∷ 18 ∷ 19 ∷ 20 ∷ 21 ∷ 22 ∷ 23 ∷ 24 ∷ 25 ∷ 26 ∷ 27 ∷ 28 ∷ 29 ∷ 30 ∷ 31 ∷ 32
      ∷ 17 ∷ 18 ∷ 19 ∷ 20 ∷ 21 ∷ 22 ∷ 23 ∷ 24 ∷ 25 ∷ 26 ∷ 27 ∷ 28 ∷ 29 ∷ 30 ∷ 31 ∷ 32 ∷ []
  -- bits 1-0 of MR1 are 01, 10 or 11
  pub more : (mr1 k : ℕ) → mr1 % 4 ≡ suc k
      → listed (sixteenths mr1) 32 0
      ≡ 9 ∷ 10 ∷ 11 ∷ 12 ∷ 13 ∷ 14 ∷ 15 ∷ 16 ∷ 25 ∷ 26 ∷ 27 ∷ 28 ∷ 29 ∷ 30 ∷ 31 ∷ 32
      ∷ 9 ∷ 10 ∷ 11 ∷ 12 ∷ 13 ∷ 14 ∷ 15 ∷ 16 ∷ 25 ∷ 26 ∷ 27 ∷ 28 ∷ 29 ∷ 30 ∷ 31 ∷ 32 ∷ []
  pub once :
      listed whole 32 0
      ≡ 1 ∷ 1 ∷ 1 ∷ 1 ∷ 1 ∷ 1 ∷ 1 ∷ 1 ∷ 2 ∷ 2 ∷ 2 ∷ 2 ∷ 2 ∷ 2 ∷ 2 ∷ 2
      ∷ 1 ∷ 1 ∷ 1 ∷ 1 ∷ 1 ∷ 1 ∷ 1 ∷ 1 ∷ 2 ∷ 2 ∷ 2 ∷ 2 ∷ 2 ∷ 2 ∷ 2 ∷ 2 ∷ []
  pub modes : (mr1 mr2 : ℕ) → (sixteenths mr1 mr2 ≡ sixteenths mr1 (mr2 % 64)) × (whole mr2 ≡ whole (mr2 % 64))

-- the stop code stands below bit 6
below_modes : (mr2 : ℕ) → mr2 % 16 ≡ mr2 % 64 % 16
below_modes mr2 = omega arith

pub stops :
    Stops (λ (mr1 mr2 : ℕ). (stop_length_of (format_of mr1).width (stop_code_of mr2)).0) (λ (mr2 : ℕ). (stop_bits_of (stop_code_of mr2)).0)
unfolding stop_length_of stop_bits_of format_of pick
stops =
    record {
      five = λ mr1 e. rw e;
      more = λ mr1 k e. rw (e, ne_eqb (suc k + 5) 5 (omega arith));
      once = refl;
      modes = λ mr1 mr2. (rw (below_modes mr2), rw (below_modes mr2));
    }
