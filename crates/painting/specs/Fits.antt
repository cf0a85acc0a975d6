-- Number 9, as a test that computes, and that it says no more and no less than that every value is in range.
use Rattle.std.specs.Prelude.{ℕ, zero, suc, ◌+◌, ◌^◌, ◌<◌, ◌≡◌, refl, Bool, true, ◌&&◌, List, [], ◌∷◌, length, get_or, drop, ltb}
use Rattle.std.proofs.Common.{arith, add-one, sym, ap, ◌∙◌, drop-cons, ltb-true, lt-ltb}
use Rattle.rules.specs.Choice.{both}
use Rattle.segment.specs.declared.Sizes.{Sizes}
use Rattle.segment.specs.Fact as Segment
use Rattle.character.specs.Fact as Character
use Rattle.painting.specs.declared.SegmentPicture.{SegmentPicture}
use Rattle.painting.specs.declared.CharacterPicture.{CharacterPicture}
use Rattle.painting.specs.Segment as OfSegment
use Rattle.painting.specs.Character as OfCharacter

abbrev pub segment_fits : Sizes → SegmentPicture → Bool
segment_fits s p =
    ltb p.mode (Segment.range s Segment.mode)
    && (ltb p.dimming (Segment.range s Segment.dimming)
    && ltb p.led (2 ^ Segment.led_bits))

-- Every number of the list is below n.
abbrev pub all_below : ℕ → List ℕ → Bool
all_below n [] = true
all_below n (x ∷ xs) = ltb x n && all_below n xs

abbrev pub character_fits : CharacterPicture → Bool
character_fits p =
    all_below (2 ^ Character.column_bits) p.cgram
    && (all_below (2 ^ Character.pair_bits) p.adram
    && (ltb p.port (2 ^ Character.port_bits)
    && (ltb p.duty (Character.range Character.duty)
    && ltb p.digits (Character.range Character.digits))))

and : (a b : Bool) → a ≡ true → b ≡ true → (a && b) ≡ true
and a b p q = rw (p, q)

pub all_below_lem : (n : ℕ) (l : List ℕ) → 0 < n → all_below n l ≡ true → (i : ℕ) → get_or l i 0 < n
all_below_lem n [] h e i = h
all_below_lem n (x ∷ l) h e zero = ltb-true x n (both (ltb x n) (all_below n l) e).0
all_below_lem n (x ∷ l) h e (suc i) = all_below_lem n l h (both (ltb x n) (all_below n l) e).1 i

pub below_all : (n : ℕ) (l : List ℕ) → ((i : ℕ) → get_or l i 0 < n) → all_below n l ≡ true
below_all n [] h = refl
below_all n (x ∷ l) h = and (ltb x n) (all_below n l) (lt-ltb x n (h 0)) (below_all n l (λ i. h (suc i)))

-- The test holds exactly where the picture is within its ranges.
pub segment_fits_lem : (s : Sizes) (p : SegmentPicture) → segment_fits s p ≡ true → OfSegment.InRanges s p
segment_fits_lem s p e =
    let m = both (ltb p.mode (Segment.range s Segment.mode)) _ e in
    let d = both (ltb p.dimming 8) _ m.1 in
    record { mode_in = ltb-true p.mode _ m.0; dimming_in = ltb-true p.dimming 8 d.0; led_in = ltb-true p.led 16 d.1 }

pub fits_segment : (s : Sizes) (p : SegmentPicture) → OfSegment.InRanges s p → segment_fits s p ≡ true
fits_segment s p h =
    and _ _ (lt-ltb p.mode _ h.mode_in) (and _ _ (lt-ltb p.dimming 8 h.dimming_in) (lt-ltb p.led 16 h.led_in))

pub character_fits_lem : (p : CharacterPicture) → character_fits p ≡ true → OfCharacter.InRanges p
character_fits_lem p e =
    let g = both (all_below 128 p.cgram) _ e in
    let a = both (all_below 4 p.adram) _ g.1 in
    let o = both (ltb p.port 4) _ a.1 in
    let u = both (ltb p.duty 8) _ o.1 in
    record {
      columns_in = all_below_lem 128 p.cgram (omega arith) g.0;
      pairs_in = all_below_lem 4 p.adram (omega arith) a.0;
      port_in = ltb-true p.port 4 o.0;
      duty_in = ltb-true p.duty 8 u.0;
      digits_in = ltb-true p.digits 8 u.1;
    }

pub fits_character : (p : CharacterPicture) → OfCharacter.InRanges p → character_fits p ≡ true
fits_character p h =
    and _ _ (below_all 128 p.cgram h.columns_in)
    (and _ _ (below_all 4 p.adram h.pairs_in)
    (and _ _ (lt-ltb p.port 4 h.port_in) (and _ _ (lt-ltb p.duty 8 h.duty_in) (lt-ltb p.digits 8 h.digits_in))))

-- The test of the rest of a list takes its first number off.
pub below_drop : (n : ℕ) (l : List ℕ) (i : ℕ) → i < length l → all_below n (drop i l) ≡ (ltb (get_or l i 0) n && all_below n (drop (i + 1) l))
below_drop n l i h = ap (all_below n) (drop-cons l i 0 h) ∙ ap (λ (k : ℕ). ltb (get_or l i 0) n && all_below n (drop k l)) (sym (add-one i))
