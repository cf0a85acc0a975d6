-- Demand 3 for one event, in the paper's words and as a caller has it: of the part byte, the promise of `hear`, and
-- number 0. The argument: number 0 is given only where the knowledge is in range and the event is heard, and then the
-- answer is what the event's rule makes of the knowledge, which `knowing` shows to be exact.
use Rattle.std.specs.Prelude.{ℕ, zero, suc, ◌≡◌, List, Ok}
use Rattle.std.proofs.Common.{arith, sym, ◌∙◌, subst}
use Rattle.rules.specs.Rule.{Rule}
use Rattle.rules.specs.Turn.{Result}
use Rattle.rules.specs.Range.{Good}
use Rattle.rules.specs.Digit.{digit}
use Rattle.knowing.specs.Standing.{Standing, known, Fits, Sound}
use Rattle.knowing.specs.Bytes.{Spells, HasByte}
use Rattle.knowing.specs.Moves.{AllHave}
use Rattle.knowing.specs.Event.{event_exact, event_fits, event_sound}
use Rattle.terms.specs.declared.Event.{Event}
use Rattle.terms.specs.declared.Part.{Part}
use Rattle.terms.specs.Event.{Bytes}
use Rattle.terms.specs.Part.{part_of}
use Rattle.parts.specs.Facts.{Fact, same?, range, move}
use Rattle.parts.specs.Laws.{two, ranged}
use Rattle.recording.specs.Record.{front, Read, record_of}
use Rattle.carrying.specs.Again.{read_again}
use Rattle.panel.specs.declared.Panel.{Panel}
use Rattle.hearing.specs.declared.events.Heard.{Heard}
use Rattle.rules.specs.Where.{where_good, where_not}
use Rattle.panel.specs.View.{known_of}
use Rattle.hearing_answer.specs.Answer.{number, record_number, event_number}
use Rattle.hearing.specs.Event.{RefusedBy, EventDone, HeardBy, HearsPart, Hears}
use Rattle.hearing.specs.Laws.{hears_as}

-- All results of all good fitting chips have the byte in these w bits.
abbrev pub AllHaveByte : {F : Type 0} → (F → ℕ) → Rule F F → (F → Standing) → (ℕ → F) → ℕ → ℕ → Type 0
AllHaveByte {F} range rule k bits w byte =
    (c : F → ℕ) → Good range c → Fits k c → (x : F → ℕ) → Result range rule c x → HasByte w (λ j. x (bits j)) byte

module _ (b : ℕ) (p : Part) (named : part_of b ≡ Ok p) (e : Event) (k : Panel) (r : Heard)
    (met : Hears (part_of b) e k r) where
  of_part : HearsPart p e k r
  of_part = hears_as (part_of b) (Ok p) e k r named met

  -- An event that was read from a recording of the part is done, where every known value is in its range.
  pub recorded_heard : (l : List ℕ) (m : ℕ) → front p l ≡ Ok (record_of e m) → Sound (range p) (known_of p k)
      → number r.answer ≡ 0
  recorded_heard l m q s =
      let d : EventDone p e k r = subst (λ (x : Read). HeardBy (record_number x) p e k r) (read_again p l e m q) (where_good s of_part) in
      d.numbered

  module _ (nought : number r.answer ≡ 0) where
    done : Sound (range p) (known_of p k) × EventDone p e k r
    done = let (sound, h) = where_not (by 1) of_part in (sound, whole (event_number p e) h)
      where
        by : (n : ℕ) → RefusedBy (suc n) k r → ⊥
        by n d = let x = sym d.numbered ∙ nought in omega (arith, x)

        whole : (n : ℕ) → HeardBy n p e k r → EventDone p e k r
        whole zero d = d
        whole (suc n) d = absurd (by n d)

    -- A fact is known exactly when all chips that fit the earlier knowledge, moved as the rules allow, agree on it, and
    -- has their value.
    pub heard_exact : (f : Fact p) (v : ℕ)
        → (known_of p r.panel f ≡ known v → AllHave (range p) (move p e) (known_of p k) f v)
        × (AllHave (range p) (move p e) (known_of p k) f v → known_of p r.panel f ≡ known v)
    heard_exact =
        event_exact (known_of p) (same? p) (range p) (two p) (move p e) k r.panel done.1.after.known done.0

    -- So a whole cell, LED or port, whose bits are these w facts, is known to hold a byte exactly when every result of
    -- every fitting chip has that byte there: for cell i of PT6312 or PT6315 `bits` is `cell i` and w is `cell_bits`, and
    -- so for the LED, DCRAM, CGRAM, ADRAM and the port, with the bits that each has by `segment/Fact` or `character/Fact`.
    pub heard_byte_exact : (bits : ℕ → Fact p) (w byte : ℕ)
        → (Spells w (λ j. known_of p r.panel (bits j)) byte → AllHaveByte (range p) (move p e) (known_of p k) bits w byte)
        × (AllHaveByte (range p) (move p e) (known_of p k) bits w byte → Spells w (λ j. known_of p r.panel (bits j)) byte)
    heard_byte_exact bits w byte = (
      λ s c good fits x made j h. (heard_exact (bits j) (digit j byte)).0 (s j h) c good fits x made,
      λ all j h. (heard_exact (bits j) (digit j byte)).1 (λ c good fits x made. all c good fits x made j h),
    )

    -- A chip that fitted fits, whichever of its results it has become.
    pub heard_fits : (c : Fact p → ℕ) → Good (range p) c → Fits (known_of p k) c
        → (x : Fact p → ℕ) → Result (range p) (move p e) c x → Fits (known_of p r.panel) x
    heard_fits =
        event_fits (known_of p) (same? p) (range p) (two p) (move p e) k r.panel done.1.after.known done.0

    -- Every known value is in its range again, so that the next event is not refused by 2.
    pub heard_sound : Bytes e → Sound (range p) (known_of p r.panel)
    heard_sound b =
        event_sound (known_of p) (same? p) (range p) (two p) (move p e) k r.panel done.1.after.known (ranged p e b)
        done.0
