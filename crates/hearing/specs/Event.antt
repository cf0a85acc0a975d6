-- The whole answer to one event: paper 01's number and place, and the knowledge, done or refused.
use Rattle.std.specs.Prelude.{ℕ, zero, suc, ◌≡◌, Ok, Err}
use Rattle.knowing.specs.Ways.{Knows}
use Rattle.terms.specs.declared.Event.{Event}
use Rattle.terms.specs.declared.Part.{Part}
use Rattle.terms.specs.Part.{PartRead}
use Rattle.parts.specs.Facts.{same?, range, move}
use Rattle.panel.specs.declared.Panel.{Panel}
use Rattle.hearing_answer.specs.Answer.{number, place, Answered}
use Rattle.hearing.specs.declared.events.Heard.{Heard}
use Rattle.panel.specs.View.{known_of, OtherKept}

-- Refused with the number n, at place 0: the knowledge comes back as handed in.
pub record RefusedBy (n : ℕ) (k : Panel) (r : Heard) : Type 0 where
  pub numbered : number r.answer ≡ n
  pub placed : place r.answer ≡ 0
  pub kept : r.panel ≡ k

-- What is known of the part is what the event's rule makes of it, and the other half is kept.
pub record After (p : Part) (e : Event) (k r : Panel) : Type 0 where
  pub known : Knows (known_of p) (known_of p) (same? p) (range p) (move p e) k r
  pub kept : OtherKept p k r

-- Done: number 0, and the knowledge after the event.
pub record EventDone (p : Part) (e : Event) (k : Panel) (r : Heard) : Type 0 where
  pub numbered : number r.answer ≡ 0
  pub placed : place r.answer ≡ 0
  pub after : After p e k r.panel

-- By the number: done with 0, else refused by it.
abbrev pub HeardBy : ℕ → Part → Event → Panel → Heard → Type 0
HeardBy zero p e k r = EventDone p e k r
HeardBy (suc n) p e k r = RefusedBy (suc n) k r

abbrev pub HearsPart : Part → Event → Panel → Heard → Type 0
HearsPart p e k r = Answered p e k (λ n. HeardBy n p e k r)

-- Number 1 exactly where the part byte names no part, before anything else is looked at.
abbrev pub Hears : PartRead → Event → Panel → Heard → Type 0
Hears (Ok p) e k r = HearsPart p e k r
Hears (Err x) e k r = RefusedBy 1 k r
