-- A run of bytes of unknown place: to any cell of one RAM; or at an unknown position, where no address is known and no column, each a command, or to any cell of any RAM, or nothing. The
-- argument: a byte leaves the position and the addresses as unknown as they were, so that the next one finds what this one found; and each cell meets the bytes one after the other.
use Rattle.std.specs.Prelude.{ℕ, zero, suc, ◌/◌, ◌%◌, ◌<◌, ◌≡◌, refl, Bool, true, false, eqb}
use Rattle.std.proofs.Common.{arith, sym, ◌∙◌, eqb-true}
use Rattle.rules.specs.Choice.{whether, whether_all}
use Rattle.knowing.specs.Standing.{Standing, unknown}
use Rattle.knowing.specs.Know.{join, know}
use Rattle.knowing.specs.Join.{not_known, join_not}
use Rattle.knowing.specs.Look.{know_same}
use Rattle.fact.specs.View.{stands}
use Rattle.fact.specs.declared.Single.{Single}
use Rattle.fact.specs.declared.Single.TheVariants.{Known, Unknown}
use Rattle.lamps.specs.View.{met}
use Rattle.changes.specs.declared.Change.TheVariants.{Meet}
use Rattle.changes.specs.Change.{among, met_run}
use Rattle.terms.specs.declared.Event.TheVariants.{ByteIn}
use Rattle.terms.specs.declared.Address.{Address}
use Rattle.character.specs.declared.command.Command.{Command}
use Rattle.character.specs.declared.command.Command.TheVariants.{Dcram, Cgram, Adram}
use Rattle.character.specs.Command.{Defined, command_of}
use Rattle.character.specs.Fact.{Fact, same?, range, dcram, cgram, adram, dcram_at, cgram_at, adram_at, column, port, duty, digits, lights, position}
use Rattle.character.specs.Laws.{every}
use Rattle.character.specs.Move.{move}
use Rattle.character_knowledge.specs.declared.Control.{Control}
use Rattle.character_knowledge.specs.View.{Memory, blank, cview, points}
use Rattle.character_steps.specs.declared.Step.{Step}
use Rattle.character_steps.specs.Step.{sview, Steps}
use Rattle.character_known.specs.Ram.{Ram, text, columns, pairs, met_in, Roams, Adrift}
use Rattle.character_known.specs.Open.{roams_step}
use Rattle.character_known.specs.Weakened.{met_at, met_column, lasts, stays, Weakens, same}
use Rattle.character_known.specs.Anywhere.{anywhere}

-- Of what is unknown, every cell may be the one, and the address stays unknown.
met_at_lem : (to : Single Address) (b : ℕ) → points to ≡ unknown → met_at to b ≡ met_in text b
met_at_lem (Known a) b e = absurd (not_known a.0 (sym e))
met_at_lem Unknown b e = refl

met_column_lem : (to : Single Address) (col : Single ℕ) (b : ℕ) → points to ≡ unknown → stands col ≡ unknown → met_column to col b ≡ met_in columns b
met_column_lem (Known a) col b e q = absurd (not_known a.0 (sym e))
met_column_lem Unknown (Known n) b e q = absurd (not_known n (sym q))
met_column_lem Unknown Unknown b e q = refl

stays_lost : (to : Single Address) (col : Single ℕ) → points to ≡ unknown → points (stays to col) ≡ unknown
stays_lost to col e = go (lasts col)
  where
    go : (t : Bool) → points (whether t Unknown to) ≡ unknown
    go true = refl
    go false = e

-- The step of a byte that the first cells of each RAM meet, so many of each.
abbrev met_by : ℕ → ℕ → ℕ → ℕ → Control → Step
met_by d g a b r = record { control = r; dcram = Meet (record { 0 = 0 }) 1 d b; cgram = Meet (record { 0 = 0 }) 1 g b; adram = Meet (record { 0 = 0 }) 1 a b }

module _ (b : ℕ) (c r : Control) (h : Adrift c) (weak : Weakens (command_of b) c r) where
  pub still_adrift : Adrift r
  still_adrift = record {
    here = weak blank position ∙ h.here;
    shown = weak blank dcram_at;
    drawn = weak blank cgram_at ∙ sym (join_not (points (stays c.cgram_at c.column)) _ (stays_lost c.cgram_at c.column h.drawn));
    inside = weak blank column;
    marked = weak blank adram_at;
  }

  adrift_step : Steps (move (ByteIn b)) c (met_by 16 40 16 b r)
  adrift_step = rw (met_at_lem c.dcram_at b h.shown, met_column_lem c.cgram_at c.column b h.drawn h.inside, met_at_lem c.adram_at b h.marked) at (anywhere b c h.here r weak)

-- A byte below 40H sets an address, if it is a command, and so leaves all as it is.
module _ (c : Control) (h : Adrift c) where
  still : (s : Standing) → points c.cgram_at ≡ join (points (stays c.cgram_at c.column)) s
  still s = h.drawn ∙ join_not (points (stays c.cgram_at c.column)) s (stays_lost c.cgram_at c.column h.drawn)

  shows_still : (a : Address) → Weakens (Dcram a) c c
  shows_still a = λ m. every _ (λ i k. same _) (λ i k. same _) (λ i k. same _) h.shown (still _) h.marked h.inside (λ k. same _) (same _) (same _) (same _) refl

  draws_still : (a : Address) → Weakens (Cgram a) c c
  draws_still a = λ m. every _ (λ i k. same _) (λ i k. same _) (λ i k. same _) h.shown (still _) h.marked h.inside (λ k. same _) (same _) (same _) (same _) refl

  marks_still : (a : Address) → Weakens (Adram a) c c
  marks_still a = λ m. every _ (λ i k. same _) (λ i k. same _) (λ i k. same _) h.shown (still _) h.marked h.inside (λ k. same _) (same _) (same _) (same _) refl

  abbrev Stays : Command → Type 0
  Stays x = Defined x → Weakens x c c

  pub aims_still : (b : ℕ) → b < 64 → Defined (command_of b) → Weakens (command_of b) c c
  aims_still b o =
      whether_all Stays (eqb (b / 16) 1) _ _ (λ e k. shows_still (record { 0 = b % 16 }))
      (λ _. whether_all Stays (eqb (b / 16) 2) _ _ (λ e k. draws_still (record { 0 = b % 8 }))
      (λ _. whether_all Stays (eqb (b / 16) 3) _ _ (λ e k. marks_still (record { 0 = b % 16 }))
      (λ _. whether_all Stays (eqb (b / 16) 4) _ _ (λ e k. absurd (omega (arith, eqb-true (b / 16) 4 e)))
      (λ _. whether_all Stays (eqb (b / 16) 5) _ _ (λ e k. absurd (omega (arith, eqb-true (b / 16) 5 e)))
      (λ _. whether_all Stays (eqb (b / 16) 6) _ _ (λ e k. absurd (omega (arith, eqb-true (b / 16) 6 e)))
      (λ _. whether_all Stays (eqb (b / 16) 7) _ _ (λ e k. absurd (omega (arith, eqb-true (b / 16) 7 e)))
      (λ _. whether_all Stays (eqb b 0x80) _ _ (λ e k. absurd (omega (arith, eqb-true b 0x80 e)))
      (λ _. whether_all Stays (eqb b 0x88) _ _ (λ e k. absurd (omega (arith, eqb-true b 0x88 e))) (λ _ k. absurd k)))))))))

-- How many cells of each RAM a byte may have gone to, where it is known which RAM.
abbrev pub in_text : Ram → ℕ
in_text text = 16
in_text columns = 0
in_text pairs = 0

abbrev pub in_columns : Ram → ℕ
in_columns text = 0
in_columns columns = 40
in_columns pairs = 0

abbrev pub in_pairs : Ram → ℕ
in_pairs text = 0
in_pairs columns = 0
in_pairs pairs = 16

roam_step : (b : ℕ) (ram : Ram) (c : Control) → Roams ram c → (m : Memory) (f : Fact) → sview m (met_by (in_text ram) (in_columns ram) (in_pairs ram) b c) f ≡ know same? range (move (ByteIn b)) (cview m c) f
roam_step b text c h m =
    let e = (roams_step b text h).knows m in
    every _ (λ i k. e (dcram i k)) (λ i k. e (cgram i k)) (λ i k. e (adram i k)) (e dcram_at) (e cgram_at) (e adram_at) (e column) (λ k. e (port k)) (e duty) (e digits) (e lights) (e position)
roam_step b columns c h m =
    let e = (roams_step b columns h).knows m in
    every _ (λ i k. e (dcram i k)) (λ i k. e (cgram i k)) (λ i k. e (adram i k)) (e dcram_at) (e cgram_at) (e adram_at) (e column) (λ k. e (port k)) (e duty) (e digits) (e lights) (e position)
roam_step b pairs c h m =
    let e = (roams_step b pairs h).knows m in
    every _ (λ i k. e (dcram i k)) (λ i k. e (cgram i k)) (λ i k. e (adram i k)) (e dcram_at) (e cgram_at) (e adram_at) (e column) (λ k. e (port k)) (e duty) (e digits) (e lights) (e position)

-- What is known after n bytes, one after the other, and the memory of which so many cells have met them.
abbrev pub after : (ℕ → ℕ) → ℕ → (Fact → Standing) → Fact → Standing
after b zero k = k
after b (suc n) k = know same? range (move (ByteIn (b n))) (after b n k)

abbrev pub drifted : ℕ → ℕ → ℕ → Memory → (ℕ → ℕ) → ℕ → Memory
drifted d g a m b n = record {
  dcram = λ i k. whether (among 0 1 d i) (met_run 8 b n k (m.dcram i k)) (m.dcram i k);
  cgram = λ i k. whether (among 0 1 g i) (met_run 7 b n k (m.cgram i k)) (m.cgram i k);
  adram = λ i k. whether (among 0 1 a i) (met_run 2 b n k (m.adram i k)) (m.adram i k);
}

-- n bytes leave r of c.
module _ (d g a : ℕ) (b : ℕ → ℕ) where
  abbrev pub Drifted : ℕ → Control → Control → Type 0
  Drifted n c r = (m : Memory) (f : Fact) → cview (drifted d g a m b n) r f ≡ after b n (cview m c) f

  pub drift_none : (c : Control) → Drifted 0 c c
  drift_none c m = every _ (λ i k. none (among 0 1 d i) (m.dcram i k)) (λ i k. none (among 0 1 g i) (m.cgram i k)) (λ i k. none (among 0 1 a i) (m.adram i k)) refl refl refl refl (λ k. refl) refl refl refl refl
    where
      none : (t : Bool) (s : Standing) → whether t s s ≡ s
      none true s = refl
      none false s = refl

  one_more : (n : ℕ) (c e r : Control) → ((m : Memory) (f : Fact) → sview m (met_by d g a (b n) r) f ≡ know same? range (move (ByteIn (b n))) (cview m e) f) → Drifted n c e → Drifted (suc n) c r
  one_more n c e r step h m f = once f ∙ step (drifted d g a m b n) f ∙ know_same same? range (move (ByteIn (b n))) (cview (drifted d g a m b n) e) (after b n (cview m c)) (h m) f
    where
      again : (t : Bool) (x s : Standing) (g : Standing → Standing) → whether t (g x) s ≡ whether t (g (whether t x s)) (whether t x s)
      again true x s g = refl
      again false x s g = refl

      once : (f : Fact) → cview (drifted d g a m b (suc n)) r f ≡ sview (drifted d g a m b n) (met_by d g a (b n) r) f
      once =
          every _
          (λ i k. again (among 0 1 d i) (met_run 8 b n k (m.dcram i k)) (m.dcram i k) (met 8 (b n) k))
          (λ i k. again (among 0 1 g i) (met_run 7 b n k (m.cgram i k)) (m.cgram i k) (met 7 (b n) k))
          (λ i k. again (among 0 1 a i) (met_run 2 b n k (m.adram i k)) (m.adram i k) (met 2 (b n) k))
          refl refl refl refl (λ k. refl) refl refl refl refl

pub drift_more : (b : ℕ → ℕ) (n : ℕ) (c e r : Control) → Adrift e → Weakens (command_of (b n)) e r → Drifted 16 40 16 b n c e → Drifted 16 40 16 b (suc n) c r
drift_more b n c e r h weak = one_more 16 40 16 b n c e r (adrift_step (b n) e r h weak).knows

pub roam_all : (ram : Ram) (b : ℕ → ℕ) (c : Control) → Roams ram c → (n : ℕ) → Drifted (in_text ram) (in_columns ram) (in_pairs ram) b n c c
roam_all ram b c h zero = drift_none (in_text ram) (in_columns ram) (in_pairs ram) b c
roam_all ram b c h (suc n) = one_more (in_text ram) (in_columns ram) (in_pairs ram) b n c c c (roam_step (b n) ram c h) (roam_all ram b c h n)
