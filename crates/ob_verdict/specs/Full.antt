-- What is seen of a statement that met a full stash.
use Rattle.std.specs.Prelude.{◌≡◌, ◌≤◌, true}
use Rattle.ob_base.specs.Stored.{headings, headings_of}
use Rattle.ob_sql.specs.declared.stmt.Stmt.{Stmt}
use Rattle.ob_mean.specs.Lawful.{Lawful}
use Rattle.ob_mean.specs.Replay.{Session, is_full_now, served_full}
use Rattle.ob_verdict.specs.Laws.{AreInPlace}

-- it tells no more than one that was cut off after the reads of its access
abbrev pub FullIsLawful : Type 0
FullIsLawful = (s : Session) (stmt : Stmt) → 1 ≤ s.public.pack → headings s.tables ≡ headings_of s.public.tables → AreInPlace s.public.stash s.tables → is_full_now s stmt ≡ true
    → Lawful s.public s.asked stmt (served_full s stmt).seen
