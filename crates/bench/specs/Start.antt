-- What each round starts from: what a prelude tells to one who knew nothing, but for the facts that are forgotten then.
use Rattle.std.specs.Prelude.{ℕ, ◌≡◌, List, eqb}
use Rattle.rules.specs.Choice.{whether}
use Rattle.fact.specs.declared.Single.{Single}
use Rattle.fact.specs.declared.Single.TheVariants.{Unknown}
use Rattle.segment_knowledge.specs.declared.Control as Segment
use Rattle.character_knowledge.specs.declared.Control as Character
use Rattle.panel.specs.declared.Panel.{Panel}
use Rattle.replay.specs.declared.replays.Replayed.{Replayed}
use Rattle.replay.specs.FromNothing.{FromNothing}
use Rattle.bench.specs.declared.start.Marks.{Marks}

-- A fact where its mark is 0, and else what stands for not knowing it.
abbrev pub unless : {A : Type 0} → ℕ → A → A → A
unless mark fact unknown = whether (eqb mark 0) fact unknown

abbrev pub kept : ℕ → Single ℕ → Single ℕ
kept mark fact = unless mark fact Unknown

abbrev pub less_of_segment : Marks → Segment.Control → Segment.Control
less_of_segment m c =
    record {
      address = unless m.addresses c.address Unknown;
      «data» = kept m.«data» c.«data»;
      stepping = c.stepping;
      mode = c.mode;
      dimming = c.dimming;
      display = c.display;
      led = c.led;
      keys = c.keys;
      switches = c.switches;
      count = c.count;
      position = kept m.position c.position;
    }

-- PT6302 has an address for each RAM, and a column beside that of CGRAM.
abbrev pub less_of_character : Marks → Character.Control → Character.Control
less_of_character m c =
    record {
      dcram_at = unless m.addresses c.dcram_at Unknown;
      cgram_at = unless m.addresses c.cgram_at Unknown;
      adram_at = unless m.addresses c.adram_at Unknown;
      column = kept m.addresses c.column;
      port = c.port;
      duty = c.duty;
      digits = c.digits;
      lights = c.lights;
      position = kept m.position c.position;
    }

-- Of the memory nothing is forgotten.
abbrev pub less : Marks → Panel → Panel
less m k =
    let s = k.segment in
    let c = k.character in
    record {
      segment = record { cells = s.cells; control = less_of_segment m s.control };
      character = record { dcram = c.dcram; cgram = c.cgram; adram = c.adram; control = less_of_character m c.control };
    }

pub record Starts (m : Marks) (part : ℕ) (prelude : List ℕ) (start : Panel) : Type 0 where
  pub before : Replayed
  pub replays : FromNothing part prelude before
  pub starts : start ≡ less m before.panel
