-- Two formats that are the same have the same frames: without parity there is no bit to hang on "odd, or forced high". Assumes nothing.
use Prim.Native.Nat.{ℕ, zero, suc, ◌/◌, ◌%◌}
use mathlib.Core.Path.{◌≡◌, refl, sym, ap, ◌∙◌}
use mathlib.Core.Bool.{Bool}
use native.Mathlib.Omega.{arith}
use borrow.Author.Tests.{le-ltb}
use Rattle.format.specs.declared.counts.Bits.{Bits}
use Rattle.format.specs.declared.format.Format.{Format}
use Rattle.format.specs.Pick.{pick}
use Rattle.format.specs.Format.{format_of}
use Rattle.format.specs.Parity.{parity_bits}
use Rattle.frame.specs.Levels.{before_stop, frame}
use Rattle.demands.specs.ReadBack.{SameFormat}

-- equal formats are the same
pub same_format : (f g : Format) → f ≡ g → SameFormat f g
same_format f g e =
    record {
      bits = ap (λ (x : Format). x.width) e;
      parity = ap (λ (x : Format). x.parity) e;
      odd = λ h. ap (λ (x : Format). x.odd) e;
      high = λ h. ap (λ (x : Format). x.odd) e;
    }

-- "10 none": so are those of two MR1 that differ in bit 2
pub none_same : (mr1 other : ℕ) → mr1 / 8 % 4 ≡ 2 → other / 8 % 4 ≡ 2 → mr1 % 4 ≡ other % 4 → SameFormat (format_of mr1) (format_of other)
unfolding format_of
none_same mr1 other p q bits =
    record { bits = rw bits; parity = p ∙ sym q; odd = λ h. absurd (omega (arith, p, h)); high = λ h. absurd (omega (arith, p, h)) }

abbrev format : Bits → ℕ → Bool → Format
format w p o = record { width = w; parity = p; odd = o }

odd_or_none : (w : Bits) (p x : ℕ) (a b : Bool) → (p ≡ 0 → a ≡ b) → (p ≡ 1 → a ≡ b) → parity_bits (format w p a) x ≡ parity_bits (format w p b) x
unfolding parity_bits pick
odd_or_none w zero x a b odd high = rw (odd refl)
odd_or_none w (suc zero) x a b odd high = rw (high refl)
odd_or_none w (suc (suc p)) x a b odd high = rw (le-ltb (suc (suc p)) 2 (omega arith))

pub same_frame : (sixteen : Bool) (f g : Format) (code x : ℕ) → SameFormat f g → frame sixteen f code x ≡ frame sixteen g code x
unfolding frame before_stop
same_frame sixteen f g code x h =
    rw (odd_or_none f.width f.parity x f.odd g.odd h.odd h.high, h.bits, h.parity)
