-- Where packets point (M-104), from the part byte and their real answers. The argument: packets in turn are answered by how the
-- records of the one row that they make end (`InPackets.by_end`), and so is closing.
use Rattle.std.specs.Prelude.{ℕ, zero, suc, ◌+◌, ◌<◌, ◌≤◌, ◌≡◌, refl, List, [], ◌∷◌, ◌++◌, length, get_or, Ok, None, Some, Err}
use Rattle.std.proofs.Common.{arith}
use Rattle.knowing.specs.Standing.{Sound}
use Rattle.terms.specs.declared.Place.{Place}
use Rattle.terms.specs.declared.Part.{Part}
use Rattle.terms.specs.declared.Part.TheVariants.{Pt6312}
use Rattle.terms.specs.Part.{part_of}
use Rattle.parts.specs.Facts.{range}
use Rattle.recording.specs.Record as Record
use Rattle.recording.specs.Walk.{walked, end_of, Ending, stop_of}
use Rattle.recording.specs.Cut.{Open}
use Rattle.recording.specs.declared.Refusal.{Refusal}
use Rattle.recording.specs.declared.Refusal.TheVariants.{Unlisted, Foreign, CutShort, Forbidden}
use Rattle.panel.specs.declared.Panel.{Panel}
use Rattle.panel.specs.View.{known_of}
use Rattle.answers.specs.Answer.{Answer, number}
use Rattle.answers.specs.Told.{Answers}
use Rattle.answers.specs.Points.{PointsIn, points_in}
use Rattle.account.specs.Bytes.{bytes_of}
use Rattle.account_ends.specs.Ended.{Halts}
use Rattle.feed.specs.declared.Feed.{Feed}
use Rattle.feed.specs.Feed.{Good, opening, first_place}
use Rattle.feed.specs.Close.{Closes}
use Rattle.packets.specs.declared.records.Taken.{Taken}
use Rattle.packets.specs.Takes.{ends}
use Rattle.packets.specs.Run.{Run, together, started, ending, NoFour, AllAnswered, Course, over, goes, halts}
use Rattle.demand.specs.Recording.{AllBytes}
use Rattle.demand.proofs.NoFour.{no_four}
use Rattle.demand.proofs.InPackets.{opened_good, one, by_end, told_halts, packets_accepted, packets_cut_short, packets_refused}
use Rattle.demand.specs.Places.{AllLast, split}

answered_alike : (a : Answer) (rs : List Taken) → AllAnswered a rs → AllLast a rs
answered_alike a [] h = tt
answered_alike a (r ∷ rs) h = (λ five. h.0, answered_alike a rs h.1)

course_alike : (p : Part) (a : Answer) (row : List ℕ) (total : ℕ) (ls : List (List ℕ)) (rs : List Taken) (before : ℕ) → Course p a row total ls rs before → AllLast a rs
course_alike p a row total ls rs before (over _ _) = tt
course_alike p a row total ls rs before (goes _ _ l ms r qs _ _ z at c) = (λ five. absurd (omega (arith, z, five)), course_alike p a (row ++ l) (total + length l) ms qs before c)
course_alike p a row total ls rs before (halts _ _ l ms r qs shut all) = answered_alike a (r ∷ qs) all

module _ (b : ℕ) (p : Part) (named : part_of b ≡ Ok p) (s : Feed) (good : Good p s) (free : s.account.kept ≡ None) (ls : List (List ℕ))
    (rs : List Taken) (run : Run (part_of b) s ls rs) (never : NoFour rs) (bytes : AllBytes (bytes_of s.account.unfinished ++ together ls)) where
  -- What was unfinished, and all packets.
  abbrev whole : List ℕ
  whole = bytes_of s.account.unfinished ++ together ls

  abbrev last : Taken
  last = ending (started s) rs

  pointing : (a : Answer) (x : Refusal) (at : Place) → end_of (walked p whole) ≡ Err (stop_of x at) → Answers a (Record.number x) (first_place s + at.0)
      → PointsIn p whole 0 (first_place s) a
  pointing a x at q h = let there = h.placed in points_in p whole 0 (first_place s) a x at q h.numbered (omega (arith, there))

  -- Every answer that is a record's refusal is the last one.
  pub refused_alike : AllLast last.answer rs
  refused_alike = course_alike p last.answer (bytes_of s.account.unfinished) s.account.total ls rs (one b p named s good free ls rs run never bytes).0 (one b p named s good free ls rs run never bytes).1

  -- The last answer, where it is a record's refusal, points into the row that the packets make, however that is cut, with what came
  -- before it counted; and it stands.
  pub packets_point : 5 ≤ number last.answer → PointsIn p whole 0 (first_place s) last.answer × (last.feed.account.kept ≡ Some last.answer)
  packets_point five = by (end_of (walked p whole)) refl
    where
      told : (x : Refusal) (at : Place) → end_of (walked p whole) ≡ Err (stop_of x at) → (Open (Err (stop_of x at)) → ⊥)
          → PointsIn p whole 0 (first_place s) last.answer × (last.feed.account.kept ≡ Some last.answer)
      told x at q shut =
          let h = told_halts b p named s good free ls rs run never bytes x at q shut in
          (pointing last.answer x at q (record { numbered = h.numbered; placed = h.placed }), h.stands)

      stopped : (x : Refusal) (at : Place) → end_of (walked p whole) ≡ Err (stop_of x at)
          → PointsIn p whole 0 (first_place s) last.answer × (last.feed.account.kept ≡ Some last.answer)
      stopped Unlisted at q = told Unlisted at q (λ o. o)
      stopped Foreign at q = told Foreign at q (λ o. o)
      stopped CutShort at q = absurd (let n = (by_end b p named s good free ls rs run never bytes (Err (stop_of CutShort at)) q).numbered in omega (arith, n, five))
      stopped Forbidden at q = told Forbidden at q (λ o. o)

      by : (e : Ending) → end_of (walked p whole) ≡ e → PointsIn p whole 0 (first_place s) last.answer × (last.feed.account.kept ≡ Some last.answer)
      by (Ok u) q = absurd (let n = (by_end b p named s good free ls rs run never bytes (Ok tt) q).numbered in omega (arith, n, five))
      by (Err s) q = stopped s.refusal s.at q

  -- Closing's answer points into that row, too; it may also be 7.
  pub closing_points : (a : Answer) → Closes (part_of b) last.feed a → 5 ≤ number a → PointsIn p whole 0 (first_place s) a
  closing_points a closing five = by (end_of (walked p whole)) refl
    where
      told : (x : Refusal) (at : Place) → end_of (walked p whole) ≡ Err (stop_of x at) → PointsIn p whole 0 (first_place s) a
      told Unlisted at q = pointing a Unlisted at q (packets_refused b p named s good free ls rs run never bytes a closing Unlisted at q (λ o. o)).4
      told Foreign at q = pointing a Foreign at q (packets_refused b p named s good free ls rs run never bytes a closing Foreign at q (λ o. o)).4
      told CutShort at q = pointing a CutShort at q (packets_cut_short b p named s good free ls rs run never bytes a closing at q).3
      told Forbidden at q = pointing a Forbidden at q (packets_refused b p named s good free ls rs run never bytes a closing Forbidden at q (λ o. o)).4

      by : (e : Ending) → end_of (walked p whole) ≡ e → PointsIn p whole 0 (first_place s) a
      by (Ok u) q = absurd (let n = (packets_accepted b p named s good free ls rs run never bytes a closing q).3.numbered in omega (arith, n, five))
      by (Err s) q = told s.refusal s.at q

pub split_record : (k : Panel) → Sound (range Pt6312) (known_of Pt6312 k) → (rs : List Taken) → Run (part_of 0x12) (opening k) split rs
    → Answers (ending (started (opening k)) rs).answer 8 4
    × ((ending (started (opening k)) rs).feed.account.kept ≡ Some (ending (started (opening k)) rs).answer)
split_record k sound rs run = (record { numbered = h.numbered; placed = h.placed }, h.stands)
  where
    never : NoFour rs
    never = no_four 0x12 Pt6312 refl split (opening k) rs run (omega arith, (omega arith, tt)) (omega arith)

    bytes : (i : ℕ) → get_or (0x07 ∷ 0x12 ∷ 0x34 ∷ 0x05 ∷ 0x01 ∷ []) i 0 < 256
    bytes zero = omega arith
    bytes (suc zero) = omega arith
    bytes (suc (suc zero)) = omega arith
    bytes (suc (suc (suc zero))) = omega arith
    bytes (suc (suc (suc (suc zero)))) = omega arith
    bytes (suc (suc (suc (suc (suc i))))) = omega arith

    h : Halts 8 4 (one 0x12 Pt6312 refl (opening k) (opened_good Pt6312 k sound) refl split rs run never bytes).0 (ends (ending (started (opening k)) rs))
    h = by_end 0x12 Pt6312 refl (opening k) (opened_good Pt6312 k sound) refl split rs run never bytes (Err (stop_of Forbidden (record { 0 = 4 }))) refl
