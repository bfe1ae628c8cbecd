-- The game that an image spells, whatever its kind. Assumes nothing.
use Rattle.std.specs.Prelude.{List, ℕ}
use Rattle.arena.specs.Game.{GameMoves, GameGoals}
use Rattle.image.specs.declared.kind.Kind.{Kind}
use Rattle.image.specs.declared.kind.Kind.TheVariants as kind
use Rattle.image.specs.Opening.{opened_kind, opened_bytes}
use Rattle.rules.specs.Games.{rules_moves, rules_goals}
use Rattle.table.specs.Tables.{table_moves, table_goals}
use Rattle.opened.specs.declared.opened.Image.{Image}
use Rattle.opened.specs.declared.opened.Image.TheVariants.{Table, Rules}

-- The moves of an opened image.
abbrev pub image_moves : Image → GameMoves
image_moves (Table table) = table_moves table.bytes.now
image_moves (Rules rules) = rules_moves rules.bytes.now

-- The goals of an opened image.
abbrev pub image_goals : Image → GameGoals
image_goals (Table table) = table_goals table.bytes.now
image_goals (Rules rules) = rules_goals rules.bytes.now

-- The moves that the bytes of an image of this kind spell.
abbrev pub kind_moves : Kind → List ℕ → GameMoves
kind_moves kind.Table bs = table_moves bs
kind_moves kind.Rules bs = rules_moves bs

-- The goals that they spell.
abbrev pub kind_goals : Kind → List ℕ → GameGoals
kind_goals kind.Table bs = table_goals bs
kind_goals kind.Rules bs = rules_goals bs

-- The moves that a byte string spells: those of what it is opened as.
abbrev pub spelled_moves : List ℕ → GameMoves
spelled_moves bs = kind_moves (opened_kind bs) (opened_bytes bs)

-- The goals that it spells.
abbrev pub spelled_goals : List ℕ → GameGoals
spelled_goals bs = kind_goals (opened_kind bs) (opened_bytes bs)
