use Rattle.ob_shell.proofs.Words.{ap, arith, refl, take, ℕ, [], ◌+◌}
use Rattle.std.proofs.KnownBytes.{Consumes-nil}
use Rattle.ob_shell.proofs.FeedLemmas.{held_byte, read_byte}
use Rattle.ob_shell.proofs.feed.Feed.next.Goals as goal
use Rattle.ob_shell.proofs.feed.Feed.next.Goals.{then-self+else-room-eq0+in-Ok+else-n-eq0, else-self}

pub returns-clause-fed : goal.returns-clause-fed
returns-clause-fed g c =
    elim c.if-self.branch [
      | then-self+else-room-eq0+in-Ok+else-n-eq0 w ↦
          rw (w.self-inside-is, w.source-is, ← c.self.view_is) (record {
            piece = take w.in-Ok.n w.read.new.buf;
            consumed = w.in-Ok.ensures.bytes.0;
            joined = read_byte _ _ _ _ _ _ w.if-self.true w.in-Ok.ensures.bound.0 w.if-n-eq0.false;
            taken = ap (λ (m : ℕ). c.self.inside.taken + m) w.in-Ok.ensures.bound.1;
            limit = refl;
          })
      | else-self w ↦
          rw (w.self-inside-is, w.source-is, ← c.self.view_is) (record {
            piece = [];
            consumed = Consumes-nil _;
            joined = held_byte _ _ _ c.self.invariant.0 w.if-self.false (omega arith);
            taken = omega arith;
            limit = refl;
          })
    ]
