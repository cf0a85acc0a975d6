-- One record at the front of a row of bytes (paper 01, "The recording" and "Numbers given back").
use Rattle.std.specs.Prelude.{ℕ, suc, Bool, true, false, ◌&&◌, ◌||◌, List, length, get_or, eqb, ltb, Result, Ok, Err}
use Rattle.rules.specs.Choice.{whether}
use Rattle.terms.specs.declared.Event.{Event}
use Rattle.terms.specs.declared.Event.TheVariants.{Power, Falls, ByteIn, Rises, Gap, Unfinished, Keys, Switches, ByteOut}
use Rattle.terms.specs.declared.Part.{Part}
use Rattle.terms.specs.declared.Part.TheVariants.{Pt6302, Pt6312, Pt6315}
use Rattle.recording.specs.declared.Record.{Record}
use Rattle.recording.specs.declared.Refusal.{Refusal}
use Rattle.recording.specs.declared.Refusal.TheVariants.{Unlisted, Foreign, CutShort, Forbidden}

-- What a record is read as: its event and its length, or what refuses it.
abbrev pub Read : Type 0
Read = Result Record Refusal

abbrev pub record_of : Event → ℕ → Record
record_of e n = record { event = e; length = n }

-- Kinds 01 to 09 are listed.
abbrev pub listed : ℕ → Bool
listed kind = ltb 0 kind && ltb kind 10

-- 07 and 09 belong to PT6312 and PT6315 only, 08 to PT6312 only.
abbrev pub keyed : Part → Bool
keyed Pt6302 = false
keyed Pt6312 = true
keyed Pt6315 = true

abbrev pub switched : Part → Bool
switched Pt6302 = false
switched Pt6312 = true
switched Pt6315 = false

abbrev pub belongs : Part → ℕ → Bool
belongs p kind = whether (eqb kind 7 || eqb kind 9) (keyed p) (whether (eqb kind 8) (switched p) true)

-- The body's length: four bytes for 07, one for 03, 06 and 08, else none.
abbrev pub body_of : ℕ → ℕ
body_of kind = whether (eqb kind 7) 4 (whether (eqb kind 3 || eqb kind 6 || eqb kind 8) 1 0)

-- The body values that are allowed: 06 carries 1 to 7, 08 carries 0 to 15; PT6312 uses three key bytes, the fourth is
-- 0.
abbrev pub bits_allowed : ℕ → Bool
bits_allowed n = ltb 0 n && ltb n 8

abbrev pub switches_allowed : ℕ → Bool
switches_allowed v = ltb v 16

abbrev pub fourth_allowed : Part → ℕ → Bool
fourth_allowed Pt6302 b = true
fourth_allowed Pt6312 b = eqb b 0
fourth_allowed Pt6315 b = true

abbrev pub allowed : Part → ℕ → ℕ → ℕ → Bool
allowed p kind first fourth =
    whether (eqb kind 6) (bits_allowed first)
    (whether (eqb kind 8) (switches_allowed first)
    (whether (eqb kind 7) (fourth_allowed p fourth) true))

-- The event of a kind and its body.
abbrev pub event_of : ℕ → ℕ → ℕ → ℕ → ℕ → Event
event_of kind b0 b1 b2 b3 =
    whether (eqb kind 1) Power
    (whether (eqb kind 2) Falls
    (whether (eqb kind 3) (ByteIn b0)
    (whether (eqb kind 4) Rises
    (whether (eqb kind 5) Gap
    (whether (eqb kind 6) (Unfinished b0)
    (whether (eqb kind 7) (Keys b0 b1 b2 b3)
    (whether (eqb kind 8) (Switches b0) ByteOut)))))))

-- What these bodies come to, by themselves.
abbrev pub of_unfinished : ℕ → Read
of_unfinished n = whether (bits_allowed n) (Ok (record_of (Unfinished n) 2)) (Err Forbidden)

abbrev pub of_switches : ℕ → Read
of_switches v = whether (switches_allowed v) (Ok (record_of (Switches v) 2)) (Err Forbidden)

abbrev pub of_keys : Part → ℕ → ℕ → ℕ → ℕ → Read
of_keys p k0 k1 k2 k3 = whether (fourth_allowed p k3) (Ok (record_of (Keys k0 k1 k2 k3) 5)) (Err Forbidden)

-- 8: a body value that is not allowed.
abbrev pub of_body : Part → ℕ → List ℕ → Read
of_body p kind l =
    whether (allowed p kind (get_or l 1 0) (get_or l 4 0))
    (Ok (record_of (event_of kind (get_or l 1 0) (get_or l 2 0) (get_or l 3 0) (get_or l 4 0)) (suc (body_of kind))))
    (Err Forbidden)

-- Each record is tested by 5, 6, 7, 8, in that order: kind not listed, kind not of this part, body cut short, body
-- value not allowed.
abbrev pub of_kind : Part → ℕ → List ℕ → Read
of_kind p kind l =
    whether (listed kind)
    (whether (belongs p kind)
    (whether (ltb (body_of kind) (length l)) (of_body p kind l) (Err CutShort))
    (Err Foreign))
    (Err Unlisted)

abbrev pub front : Part → List ℕ → Read
front p l = of_kind p (get_or l 0 0) l

-- Paper 01's number for each refusal.
abbrev pub number : Refusal → ℕ
number Unlisted = 5
number Foreign = 6
number CutShort = 7
number Forbidden = 8

-- The place of a refusal within its record, whose first byte is its kind (M-104): 8 points at the body byte at fault, which
-- is the byte behind the kind for 06 and 08, and the fourth body byte for 07, on PT6312; 5, 6 and 7 point at the record's first
-- byte. Of other kinds, and of 07 on other parts, there is no 8 (`Tests.eight_kinds`).
abbrev pub place_within : Refusal → (kind : ℕ) → ℕ
place_within Unlisted kind = 0
place_within Foreign kind = 0
place_within CutShort kind = 0
place_within Forbidden kind = whether (eqb kind 7) 4 1
