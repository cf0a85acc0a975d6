-- What is known of a PT6312 or PT6315 after a painting, whatever was known before. The argument: each strobe begins
-- with a fall, so that its first byte is known to be a command, and all that the bytes behind it look at has been
-- set: the data mode and increment by 40H or 41H, the address by C0H. Only the mode command may look at what is not
-- known, the mode itself; but every way comes to the same mode, and to the same position. Behind that byte the
-- knowledge goes as every chip goes, and every chip ends painted.
use Prim.Native.Nat.{ℕ, zero, suc, ◌+◌, ◌*◌, ◌/◌, ◌%◌, ◌<◌}
use Rattle.std.proofs.Common.{arith, sym, ap, ◌∙◌, eqb-true, eq-eqb}
use Rattle.std.specs.Prelude.{◌≡◌, List, [], ◌∷◌, ◌++◌, map, length, get_or, take, ltb, eqb}
use Rattle.std.proofs.Math.Path.{refl}
use Rattle.rules.specs.Digit.{digit}
use Rattle.rules.specs.Choice.{whether, whether_all}
use Rattle.rules.specs.Rule.{Rule, gives, look, becomes, run}
use Rattle.rules.specs.Change.{keep, set_bits}
use Rattle.rules.specs.Laws.{says_by_value}
use Rattle.rules.specs.Touch.{AllSettle, keep_settles, bits_settle}
use Rattle.rules.specs.Turn.{Surely, put, change_put}
use Rattle.knowing.specs.Standing.{Standing, known, unknown}
use Rattle.knowing.specs.Know.{learn, know}
use Rattle.knowing.specs.Look.{look_known, look_unknown}
use Rattle.knowing.specs.Join.{common_same}
use Rattle.knowing.specs.Fill.{fill, filled}
use Rattle.knowing.specs.Changed.{learn_here}
use Rattle.knowing.specs.Turn.{in_turn}
use Rattle.whole.specs.Sentence.{IsKnown}
use Rattle.terms.specs.declared.Event.{Event}
use Rattle.terms.specs.declared.Event.TheVariants.{Falls, ByteIn, Rises}
use Rattle.terms.specs.Event.{strobe}
use Rattle.segment.specs.declared.Family.{Family}
use Rattle.segment.specs.declared.Sizes.{Sizes}
use Rattle.segment.specs.declared.Display.{Display}
use Rattle.segment.specs.declared.Display.TheVariants.{Off, On}
use Rattle.segment.specs.declared.Position.{Position}
use Rattle.segment.specs.declared.Position.TheVariants.{Open, Ignoring}
use Rattle.segment.specs.declared.command.Command.TheVariants.{Mode}
use Rattle.segment.specs.Family.{sizes}
use Rattle.segment.specs.Fact.{Fact, same?, range, cell, address, data_mode, stepping, mode, dimming, display, led, key, switches, read_count, position}
use Rattle.segment.specs.Value.{pointer, shows, at_position}
use Rattle.segment.specs.Command.{command_of, display_of, pointer_of}
use Rattle.segment.specs.Move.{Forms, sets, stores, lights, then, to_mode, setting, after, stored_at, stored, written, byte_in, move}
use Rattle.segment.specs.Laws.{every}
use Rattle.painting.specs.declared.SegmentPicture.{SegmentPicture}
use Rattle.painting.specs.Segment.{InRanges, control, painting, painted}
use Rattle.painting.specs.SegmentLeads.{paintable, paints}
use Rattle.repainted.specs.Repainted.{segment_repainted as repainted}
use Rattle.repainted.specs.Follows.{Comes, comes, comes_by, set_settles, known_at_end, one_end, filled_where, filled_bits}
use Rattle.repainted.specs.Strobe.{Bus, Always, no_more, at, rose, single, row}

abbrev pub Knowledge : Type 0
Knowledge = Fact → Standing

-- The data setting is that of 40H.
abbrev pub Set : Knowledge → Type 0
Set k = (k data_mode ≡ known 0) × (k stepping ≡ known 0)

-- All is known that a byte for the cells looks at.
abbrev pub Writing : Knowledge → Type 0
Writing k = (k position ≡ known 2) × (k data_mode ≡ known 0) × (k stepping ≡ known 0) × IsKnown (k address)

-- All is known that a byte for the LED looks at.
abbrev Lighting : Knowledge → Type 0
Lighting k = (k position ≡ known 2) × (k data_mode ≡ known 1)

kept : AllSettle same? keep
kept = keep_settles same?

pub then_settles : (q : Position) → AllSettle same? (then q)
then_settles q = set_settles same? position (at_position q) keep kept

pub setting_settles : (d : ℕ) → AllSettle same? (sets data_mode d (setting 0))
setting_settles d = set_settles same? data_mode d _ (set_settles same? stepping 0 _ (set_settles same? read_count 0 _ (then_settles Open)))

-- The control byte is one of display control.
control_top : (o : Display) (d : ℕ) → d < 8 → (0x80 + shows o * 8 + d) / 64 ≡ 2
control_top Off d h = omega arith
control_top On d h = omega arith

-- The strobes behind the first.
abbrev four : Sizes → SegmentPicture → List Event
four s p = strobe (0x40 ∷ []) ++ (strobe (0xC0 ∷ take s.cells p.cells) ++ (strobe (0x41 ∷ p.led ∷ []) ++ strobe (control p ∷ [])))

module _ (s : Sizes) where
  abbrev pub bus : Bus Fact
  bus = record { same? = same?; range = range s; move = move s; position = position; byte_in = byte_in s; falls = refl; bytes = λ b. refl; rises = refl }

  abbrev Into : Rule Fact Fact → Knowledge → (Knowledge → Type 0) → Type 0
  Into rule k I = Comes same? (range s) rule k I

  -- A byte for the cells, by the address.
  stored_byte : (v a : ℕ) (k : Knowledge) → Writing k → Into (stored s v a) k Writing
  unfolding set_bits
  stored_byte v zero k w = comes same? (range s) keep k Writing kept w
  stored_byte v (suc i) k w =
      let one : Forms = stores i v keep in
      whether_all (λ (r : Rule Fact Fact). Into r k Writing) (ltb i s.cells) _ _
      (λ _. comes_by same? (range s) stepping (stored_at s v i) k Writing 0 w.2
      (comes same? (range s) (sets address (pointer (after s i)) one) k Writing (set_settles same? address _ one (bits_settle same? (cell i) 8 v keep kept))
      (w.0, w.1, w.2, (_, refl))))
      (λ _. comes same? (range s) keep k Writing kept w)

  -- A byte where the position is open, by the data mode.
  open_byte : (I : Knowledge → Type 0) (v d : ℕ) (k : Knowledge) → k position ≡ known 2 → k data_mode ≡ known d → Into (written s v d) k I
      → Into (look position (byte_in s v)) k I
  open_byte I v d k q e c = comes_by same? (range s) position (byte_in s v) k I 2 q (comes_by same? (range s) data_mode (written s v) k I d e c)

  -- A byte for the cells.
  pub cell_byte : (v : ℕ) (k : Knowledge) → Writing k → Into (look position (byte_in s v)) k Writing
  cell_byte v k w =
      open_byte Writing v 0 k w.0 w.1
      (comes_by same? (range s) address (stored s v) k Writing w.3.0 w.3.1 (stored_byte v w.3.0 k w))

  four_follow : (p : SegmentPicture) → InRanges s p → Always bus (four s p)
  unfolding set_bits
  four_follow p fits =
      single bus Set 0x40 (sets data_mode 0 (setting 0)) refl (setting_settles 0) (λ k _. (refl, refl))
      (row bus (λ _. Unit) Writing 0xC0 (take s.cells p.cells) (sets address (pointer (pointer_of s 0xC0)) (then Open)) refl
      (set_settles same? address _ _ (then_settles Open)) (λ k h. (refl, h.0, h.1, (_, refl)))
      cell_byte (λ k _. tt)
      (row bus (λ _. Unit) Lighting 0x41 (p.led ∷ []) (sets data_mode 1 (setting 0)) refl (setting_settles 1) (λ k _. (refl, refl))
      (λ v k w. open_byte Lighting v 1 k w.0 w.1 (comes same? (range s) (lights v keep) k Lighting (bits_settle same? led 4 v keep kept) w)) (λ k _. tt)
      (single bus (λ _. Unit) (control p) (sets dimming (control p % 8) (sets display (shows (display_of (control p))) (then Ignoring)))
      (rw (control_top p.display p.dimming fits.dimming_in) refl)
      (set_settles same? dimming _ _ (set_settles same? display _ _ (then_settles Ignoring))) (λ k _. tt) (no_more bus))))

-- The mode command.
module _ (s : Sizes) (m : ℕ) where
  -- What is known behind the mode byte.
  abbrev behind : Knowledge → Knowledge
  behind k = know same? (range s) (move s (ByteIn m)) (know same? (range s) (move s Falls) k)

  -- A fact of which neither the strobe nor the command speaks.
  abbrev Spared : Fact → Type 0
  Spared f = (l : Knowledge) (v : ℕ) → (at (bus s) v l f ≡ l f) × (learn same? mode v l f ≡ l f)
      × (know same? (range s) (gives (sets mode m (sets display (shows Off) (then Ignoring)))) l f ≡ l f)

  module _ (reads : command_of s m ≡ Mode m) where
    -- Whether the mode is known or not, the fact f is t if it is so with every mode that the look may meet.
    each_way : (K : Knowledge → Type 0) (k : Knowledge) (f : Fact) (t : Standing) → K (at (bus s) 1 k) → ((w : ℕ) → K (learn same? mode w (at (bus s) 1 k)))
        → ((w : ℕ) (l : Knowledge) → l mode ≡ known w → K l → know same? (range s) (to_mode m w) l f ≡ t) → behind k f ≡ t
    each_way K k f t one each way = rw reads (go (k mode) refl)
      where
        low : Knowledge
        low = at (bus s) 1 k

        go : (u : Standing) → k mode ≡ u → know same? (range s) (look mode (to_mode m)) low f ≡ t
        go (known w) e = sym (look_known same? (range s) mode (to_mode m) low f w t e (sym (way w low e one)))
        go unknown e =
            sym (look_unknown same? (range s) mode (to_mode m) low f t e
            (sym (common_same (suc s.top) _ t (omega arith) (λ w _. way w (learn same? mode w low) (learn_here same? low mode w) (each w)))))

    position_behind : (k : Knowledge) → behind k position ≡ known 3
    position_behind k =
        each_way (λ _. Unit) k position (known 3) tt (λ w. tt)
        (λ w l _ _. whether_all (λ (r : Rule Fact Fact). know same? (range s) r l position ≡ known 3) (eqb w m) _ _ (λ _. refl) (λ _. refl))

    mode_behind : (k : Knowledge) → behind k mode ≡ known m
    mode_behind k =
        each_way (λ _. Unit) k mode (known m) tt (λ w. tt)
        (λ w l e _. whether_all (λ (r : Rule Fact Fact). know same? (range s) r l mode ≡ known m) (eqb w m) _ _ (λ t. e ∙ ap known (eqb-true w m t)) (λ _. refl))

    spared_behind : (f : Fact) → Spared f → (k : Knowledge) → behind k f ≡ k f
    spared_behind f h k =
        each_way (λ l. l f ≡ k f) k f (k f) (h k 1).0 (λ w. (h (at (bus s) 1 k) w).1 ∙ (h k 1).0)
        (λ w l _ e. whether_all (λ (r : Rule Fact Fact). know same? (range s) r l f ≡ k f) (eqb w m) _ _ (λ _. (h l 3).0 ∙ e) (λ _. (h l 0).2 ∙ e))

    -- A chip that has the mode already, and ignores, is left as it was.
    left_alone : (c : Fact → ℕ) → c position ≡ 3 → c mode ≡ m → (f : Fact) → run (move s (ByteIn m)) (put same? position 1 c) f ≡ becomes (c f)
    left_alone c q e f =
        rw reads
        (says_by_value (to_mode m) (put same? position 1 c) f _ (c mode) m e
        (rw (eq-eqb m m refl)
        (every (λ (f : Fact). run (gives (then Ignoring)) (put same? position 1 c) f ≡ becomes (c f))
        (λ i k. refl) refl refl refl refl refl refl (λ k. refl) (λ i. refl) refl refl (ap becomes (sym q)) f)))

-- A chip that has d wherever nothing is known is painted as the knowledge is.
painted_filled : (s : Sizes) (p : SegmentPicture) (d : ℕ) (k : Knowledge) (f : Fact) → painted s p (filled d k) f ≡ fill d (repainted s p k f)
painted_filled s p d k = every _ (λ i j. filled_bits d (ltb i s.cells) (ltb j 8) _ _) refl refl refl refl refl refl (λ j. filled_where d (ltb j 4) _ _) (λ i. refl) refl refl refl

module _ (q : Family) (p : SegmentPicture) (fits : InRanges (sizes q) p) (whole : length p.cells ≡ 36) (k : Fact → Standing) where
  reads : command_of (sizes q) p.mode ≡ Mode p.mode
  reads = (paintable q).mode_read p.mode fits.mode_in

  abbrev k₁ : Knowledge
  k₁ = behind (sizes q) p.mode k

  -- The moves behind the mode byte.
  abbrev rest : List (Rule Fact Fact)
  rest = map (move (sizes q)) (Rises ∷ four (sizes q) p)

  -- A chip that has d wherever nothing is known behind the mode byte is painted by the rest, since the mode byte
  -- would not have changed it.
  ends_painted : (d : ℕ) (x : Fact → ℕ) → Surely rest (filled d k₁) x → (f : Fact) → x f ≡ fill d (repainted (sizes q) p k₁ f)
  ends_painted d x h f =
      let c : Fact → ℕ = filled d k₁ in
      let ignores = ap (fill d) (position_behind (sizes q) p.mode reads k) in
      let has-mode = ap (fill d) (mode_behind (sizes q) p.mode reads k) in
      one_end same? (range (sizes q)) (map (move (sizes q)) (painting (sizes q) p)) c x (painted (sizes q) p c)
      (put same? position 1 c, λ g. change_put same? c c position 1 keep g refl, (c, left_alone (sizes q) p.mode reads c ignores has-mode, h))
      (paints q p fits whole c) f
      ∙ painted_filled (sizes q) p d k₁ f

  -- What the mode byte changes is painted anyway.
  as_before : (f : Fact) → repainted (sizes q) p k₁ f ≡ repainted (sizes q) p k f
  as_before =
      every _ (λ i j. ap (λ (t : Standing). whether (ltb i (sizes q).cells) (whether (ltb j 8) (known (digit j (get_or p.cells i 0))) t) t) (spared (cell i j) (λ l v. (refl, refl, refl)))) refl refl refl refl refl refl
      (λ j. ap (whether (ltb j 4) (known (digit j p.led))) (spared (led j) (λ l v. (refl, refl, refl))))
      (λ i. spared (key i) (λ l v. (refl, refl, refl))) (spared switches (λ l v. (refl, refl, refl))) refl refl
    where
      spared : (f : Fact) → Spared (sizes q) p.mode f → k₁ f ≡ k f
      spared f h = spared_behind (sizes q) p.mode reads f h k

  -- All that is known after the painting, whatever was known before.
  pub segment_repainted_lem : (f : Fact) → in_turn same? (range (sizes q)) (map (move (sizes q)) (painting (sizes q) p)) k f ≡ repainted (sizes q) p k f
  segment_repainted_lem f =
      known_at_end same? (range (sizes q)) rest k₁ (repainted (sizes q) p k₁) (rose (bus (sizes q)) ((four_follow (sizes q) p fits).from _ tt)) ends_painted f
      ∙ as_before f
