-- What a reading tells of the chips that a recording leads to. The argument: every chip that the records, or those behind
-- the last gap, may lead to fits what is known at the end, and a chip that fits shows what is read.
use Rattle.std.specs.Prelude.{ℕ, ◌≡◌, refl, true, List, [], ◌∷◌, ℤ, negsuc, Ok}
use Rattle.std.proofs.Math.Decide.{ℕ_discrete}
use Rattle.std.proofs.Math.Path.{subst⁻¹}
use Rattle.rules.specs.Digit.{digit}
use Rattle.rules.specs.Change.{set_bits}
use Rattle.knowing.specs.Standing.{Standing, Agrees}
use Rattle.knowing.specs.Turn.{in_turn}
use Rattle.terms.specs.Part.{part_of}
use Rattle.terms.specs.declared.Part.TheVariants.{Pt6302}
use Rattle.recording.specs.Walk.{walked, end_of}
use Rattle.character.specs.Fact.{Fact, same?, range}
use Rattle.panel.specs.declared.Panel.{Panel}
use Rattle.replay.specs.declared.replays.Replayed.{Replayed}
use Rattle.answers.specs.Answer.{number}
use Rattle.replay.specs.Replay.{Replays}
use Rattle.replay.specs.FromNothing.{FromNothing}
use Rattle.tail.specs.Tail.{tail_of}
use Rattle.whole.specs.Sentence.{has_gap}
use Rattle.thermometer.specs.declared.temperatures.Answer.{Answer}
use Rattle.field.specs.Said.{reading}
use Rattle.thermometer.specs.Answer.{Reads, temperature_of, Tells}
use Rattle.thermometer.specs.Shown.{ShownBy}
use Rattle.readings.specs.Reading.{reading_is_shown}
use Rattle.demand.specs.Recording.{AllBytes, events_from, moves_from}
use Rattle.demand.proofs.Demand.{recording_fits}
use Rattle.demand.proofs.Tail.{gap_fits}
use Rattle.demand.specs.Temperature.{LedTo}

fewer : (start : ℕ) (h : ℤ) {many few : (Fact → ℕ) → Type 0} → ((c : Fact → ℕ) → few c → many c) → ShownBy start h many → ShownBy start h few
fewer start h into s = record { field = s.field; spells = s.spells; shown = λ c f. s.shown c (into c f); same = λ c f. s.same c (into c f) }

module _ (b : ℕ) (named : part_of b ≡ Ok Pt6302) (l : List ℕ) (r : Replayed) (zero : number r.answer ≡ 0) (bytes : AllBytes l)
    (start : ℕ) (a : Answer) (told : Tells (part_of b) r.panel start a) (h : ℤ) (reads : Reads a h) where
  -- After an accepted recording with a gap a reading is given only if every chip, whatever its state at the last gap,
  -- moved by the records behind it, ends showing that very field.
  pub reading_behind_gap : (k : Panel) → Replays (part_of b) k l 0 r → has_gap (events_from Pt6302 0 l) ≡ true
      → ShownBy start h (LedTo (moves_from Pt6302 0 (tail_of (part_of b) l)))
  reading_behind_gap k met gap =
      fewer start h (λ x (c, good, ends). gap_fits b Pt6302 named k l r met zero gap bytes c x good ends)
      (reading_is_shown b named r.panel start a told h reads)

  -- After a recording that one who knows nothing has replayed, as `thermo` does, a reading is given only if every chip,
  -- whatever its state before, moved by the recording, ends showing that very field.
  pub reading_from_nothing : FromNothing b l r → ShownBy start h (LedTo (moves_from Pt6302 0 l))
  reading_from_nothing from =
      fewer start h
      (λ x (c, good, ends). recording_fits b Pt6302 named from.before l 0 r from.replays zero bytes c x good (λ f. subst⁻¹ (λ (s : Standing). Agrees s (c f)) (from.nothing.character f) tt) ends)
      (reading_is_shown b named r.panel start a told h reads)

-- So may it be: a gap, and behind it strobes that set the digits, the lights and five cells. Whatever was known before,
-- the field at 00H then reads -7.5.
abbrev shown_behind : List ℕ
shown_behind =
    0x05 ∷ 0x02 ∷ 0x03 ∷ 0x60 ∷ 0x04 ∷ 0x02 ∷ 0x03 ∷ 0x70 ∷ 0x04
    ∷ 0x02 ∷ 0x03 ∷ 0x10 ∷ 0x03 ∷ 0x2D ∷ 0x03 ∷ 0x20 ∷ 0x03 ∷ 0x37 ∷ 0x03 ∷ 0x2E ∷ 0x03 ∷ 0x35 ∷ 0x04 ∷ []

pub reading_can_be : (k : Fact → Standing) → (has_gap (events_from Pt6302 0 shown_behind) ≡ true) × (end_of (walked Pt6302 shown_behind) ≡ Ok tt)
    × (temperature_of (in_turn same? range (moves_from Pt6302 0 shown_behind) k) 0 ≡ reading (negsuc 14))
unfolding ℕ_discrete set_bits digit
reading_can_be k = (refl, refl, refl)
