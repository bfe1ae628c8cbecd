-- The game of an image is lawful, whatever its kind.
use Rattle.std.specs.Prelude.{◌≡◌, true, List, ℕ}
use Rattle.arena.specs.Game.{LawfulMoves, LawfulGoals}
use Rattle.image.specs.declared.kind.Kind.{Kind}
use Rattle.image.specs.declared.kind.Kind.TheVariants as kind
use Rattle.image.specs.Opening.{is_image}
use Rattle.rules.specs.Ruling.{rules_moves_lawful, rules_goals_lawful}
use Rattle.table.specs.Tabling.{table_moves_lawful, table_goals_lawful}
use Rattle.opened.specs.declared.opened.Image.{Image}
use Rattle.opened.specs.declared.opened.Image.TheVariants.{Table, Rules}
use Rattle.opened.specs.Opened.{kind_moves, kind_goals, image_moves, image_goals}

pub lawful_moves : (k : Kind) (bs : List ℕ) → is_image k bs ≡ true → LawfulMoves (kind_moves k bs)
lawful_moves kind.Table bs e = table_moves_lawful bs e
lawful_moves kind.Rules bs e = rules_moves_lawful bs e

pub lawful_goals : (k : Kind) (bs : List ℕ) → is_image k bs ≡ true → LawfulGoals (kind_moves k bs).states (kind_goals k bs)
lawful_goals kind.Table bs e = table_goals_lawful bs e
lawful_goals kind.Rules bs e = rules_goals_lawful bs e

-- So is that of an opened image.
pub image_moves_lawful : (im : Image) → LawfulMoves (image_moves im)
image_moves_lawful (Table table) = lawful_moves kind.Table table.bytes.now table.lawful
image_moves_lawful (Rules rules) = lawful_moves kind.Rules rules.bytes.now rules.lawful

pub image_goals_lawful : (im : Image) → LawfulGoals (image_moves im).states (image_goals im)
image_goals_lawful (Table table) = lawful_goals kind.Table table.bytes.now table.lawful
image_goals_lawful (Rules rules) = lawful_goals kind.Rules rules.bytes.now rules.lawful
