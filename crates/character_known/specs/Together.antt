-- The rows lent, and the facts beside them, as what is known of a panel.
use Rattle.std.specs.Prelude.{◌≡◌, length}
use Rattle.character_knowledge.specs.declared.Control.{Control}
use Rattle.character_knowledge.specs.declared.Knowledge.{Knowledge}
use Rattle.character_known.specs.declared.rows.Rows.{Rows}

abbrev pub together : Rows → Control → Knowledge
together rows c = record { dcram = rows.dcram; cgram = rows.cgram; adram = rows.adram; control = c }

-- Each row has a code for each cell of its RAM, as its type says.
abbrev pub Sized : Rows → Type 0
Sized rows = (length rows.dcram ≡ 16) × ((length rows.cgram ≡ 40) × (length rows.adram ≡ 16))
