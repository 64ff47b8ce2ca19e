-- What is public after a statement, and the accesses of many statements.
use Rattle.std.specs.Prelude.{◌+◌, List, [], ◌∷◌, ◌++◌}
use Rattle.ob_base.specs.declared.access.Access.{Access}
use Rattle.ob_base.specs.Accesses.{makes}
use Rattle.ob_base.specs.declared.config.Public.{Public}
use Rattle.ob_base.specs.declared.seen.Seen.{Seen}
use Rattle.ob_base.specs.declared.skeleton.Skeleton.{Skeleton}
use Rattle.ob_script.specs.Script.{closing_then, script}
use Rattle.ob_script.specs.Tables.{tables_then}

-- each region that was made uses up a number
abbrev pub next : Public → Skeleton → Seen → Public
next p s seen = record p {
  tables = tables_then p s seen.end;
  next_region = p.next_region + makes (script p s seen);
  closing = closing_then p s seen.end;
}

-- a statement, and what was seen of it
pub record Served : Type 0 where
  pub skeleton : Skeleton
  pub seen : Seen

abbrev pub trace : Public → List Served → List Access
trace p [] = []
trace p (x ∷ xs) = script p x.skeleton x.seen ++ trace (next p x.skeleton x.seen) xs

-- what is public after many statements
abbrev pub after_all : Public → List Served → Public
after_all p [] = p
after_all p (x ∷ xs) = after_all (next p x.skeleton x.seen) xs
