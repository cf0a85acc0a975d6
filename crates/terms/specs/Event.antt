-- What an event carries, and how it is recorded.
use Rattle.std.specs.Prelude.{ℕ, ◌<◌, ◌≡◌, refl, List, [], ◌∷◌, ◌++◌, map}
use Rattle.std.proofs.Common.{sym, ap, ◌∙◌, append_assoc}
use Rattle.terms.specs.declared.Event.{Event}
use Rattle.terms.specs.declared.Event.TheVariants.{Power, Falls, ByteIn, Rises, Gap, Unfinished, Keys, Switches, ByteOut}

-- The numbers that the event carries are bytes. This holds of every event that code hands over.
abbrev pub Bytes : Event → Type 0
Bytes Power = Unit
Bytes Falls = Unit
Bytes (ByteIn b) = b < 256
Bytes Rises = Unit
Bytes Gap = Unit
Bytes (Unfinished n) = n < 256
Bytes (Keys k0 k1 k2 k3) = (k0 < 256) × (k1 < 256) × (k2 < 256) × (k3 < 256)
Bytes (Switches v) = v < 256
Bytes ByteOut = Unit

-- How an event is recorded: one byte of kind, then a body whose length the kind fixes (paper 01, "The recording").
abbrev pub recorded : Event → List ℕ
recorded Power = 1 ∷ []
recorded Falls = 2 ∷ []
recorded (ByteIn b) = 3 ∷ b ∷ []
recorded Rises = 4 ∷ []
recorded Gap = 5 ∷ []
recorded (Unfinished n) = 6 ∷ n ∷ []
recorded (Keys k0 k1 k2 k3) = 7 ∷ k0 ∷ k1 ∷ k2 ∷ k3 ∷ []
recorded (Switches v) = 8 ∷ v ∷ []
recorded ByteOut = 9 ∷ []

-- A recording is its events in turn.
abbrev pub recording : List Event → List ℕ
recording [] = []
recording (e ∷ es) = recorded e ++ recording es

-- A strobe: it falls, bytes go in, it rises.
abbrev pub strobe : List ℕ → List Event
strobe bs = Falls ∷ (map ByteIn bs ++ (Rises ∷ []))

pub recording_append : (es ds : List Event) → recording (es ++ ds) ≡ recording es ++ recording ds
recording_append [] ds = refl
recording_append (e ∷ es) ds = ap (λ (l : List ℕ). recorded e ++ l) (recording_append es ds) ∙ sym (append_assoc (recorded e) (recording es) (recording ds))
