-- A text that doesn't meet a full stash, and those after it.
use Rattle.std.proofs.Common.{◌≡◌, Bool, false, List, [], ◌∷◌, ap}
use Rattle.std.specs.Prelude.{Ok, if◌then◌else◌}
use Rattle.ob_sql.specs.declared.stmt.Stmt.{Stmt}
use Rattle.ob_mean.specs.Replay.{Broken, Session, Spelt, after, after_all, all_served, answer_or_cut, answers, head_of, is_full_now, rest_of, served, served_full}

module _ (s : Session) (stmt : Stmt) (texts : List Spelt) (bs : Broken) (room : is_full_now s stmt ≡ false) where
  pub after_room : after_all s (Ok stmt ∷ texts) bs ≡ after_all (after (head_of bs) s stmt) texts (rest_of bs)
  after_room = ap (λ (full : Bool). if full then s else after_all (after (head_of bs) s stmt) texts (rest_of bs)) room

  pub answers_room : answers s (Ok stmt ∷ texts) bs ≡ answer_or_cut (head_of bs) s stmt ∷ answers (after (head_of bs) s stmt) texts (rest_of bs)
  answers_room = ap (λ (full : Bool). if full then [] else answer_or_cut (head_of bs) s stmt ∷ answers (after (head_of bs) s stmt) texts (rest_of bs)) room

  pub served_room : all_served s (Ok stmt ∷ texts) bs ≡ served (head_of bs) s stmt ∷ all_served (after (head_of bs) s stmt) texts (rest_of bs)
  served_room = ap (λ (full : Bool). if full then served_full s stmt ∷ [] else served (head_of bs) s stmt ∷ all_served (after (head_of bs) s stmt) texts (rest_of bs)) room
