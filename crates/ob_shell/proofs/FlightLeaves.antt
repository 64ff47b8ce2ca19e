-- What a flight leaves of a session: its tables and its draws.
use Rattle.ob_shell.proofs.Words.{after, Answer, ap, arith, drop, length, List, map, None, Ok, refl, Position, Session, Spelt, subst, suc, sym, zero, ℕ, [], ◌++◌, ◌∙◌, ◌∷◌, ◌≡◌}
use Rattle.ob_headline.proofs.EffectLemmas.{left_served}
use Rattle.ob_headline.specs.Flights.{at_next, at_position}
use Rattle.ob_headline.specs.Meaning.{session_after}
use Rattle.ob_headline.specs.SavedHeadline.{left_by}
use Rattle.ob_mean.specs.Replay.{Broken, head_of, rest_of}
use Rattle.ob_shell.proofs.FlightMeant.{AreStill, IsStill, at_same}
use Rattle.ob_shell.proofs.FlownLists.{StmtInFlight, positions_in, stmts_in}
use Rattle.ob_shell.proofs.LeavePath.{GoesOn}

drop_rest : (n : ℕ) (broken : Broken) → drop n (rest_of broken) ≡ drop (suc n) broken
drop_rest n (how ∷ broken) = refl
drop_rest zero [] = refl
drop_rest (suc n) [] = refl

next_tables : (positions : List Position) (s : Session) → (at_next positions s).tables ≡ s.tables
next_tables [] s = refl
next_tables (v ∷ positions) s = refl

-- after no answer the tables are as they were
pub left_first : (positions : List Position) (s : Session) (spelt : List Spelt) (broken : Broken) → left_by None positions s spelt [] broken ≡ s.tables
unfolding session_after
left_first positions s spelt broken = next_tables positions s

module _ (s : Session) where
  still_there : (f : StmtInFlight) (t : Session) → t.tables ≡ s.tables → t.draws ≡ s.draws → (broken : Broken) → IsStill (head_of broken) (at_position f.position s) f.stmt → IsStill (head_of broken) (at_position f.position t) f.stmt
  still_there f t ts ds broken still = subst (λ (y : Session). IsStill (head_of broken) y f.stmt) (sym (at_same f.position s t ts ds)) still

  -- so they are after those that were answered of a flight that was left
  pub leaves_kept : (fs : List StmtInFlight) (kept : List Answer) (broken : Broken) → AreStill s fs kept broken → (t : Session) → t.tables ≡ s.tables → t.draws ≡ s.draws → left_by None (positions_in fs) t (map Ok (stmts_in fs)) kept broken ≡ s.tables
  leaves_kept fs [] broken still t ts ds = left_first (positions_in fs) t (map Ok (stmts_in fs)) broken ∙ ts
  leaves_kept [] (one ∷ kept) broken still t ts ds = absurd still
  leaves_kept (f ∷ fs) (one ∷ kept) broken still t ts ds =
      let own = still_there f t ts ds broken still.0 in
      left_served None (positions_in fs) t (map Ok (stmts_in fs)) one kept broken f.position f.stmt own.room
      ∙ leaves_kept fs kept (rest_of broken) still.1 (after (head_of broken) (at_position f.position t) f.stmt) (own.leaves.tables ∙ ts) (own.leaves.draws ∙ ds)

  -- and after all of a flight, from which a session goes on
  pub leaves_flown : (fs : List StmtInFlight) (positions : List Position) (more : List Spelt) (given answers : List Answer) (broken : Broken) → length given ≡ length fs → AreStill s fs given broken → (t : Session) → t.tables ≡ s.tables → t.draws ≡ s.draws
      → GoesOn t (positions_in fs) positions (stmts_in fs) more given answers broken
  leaves_flown [] positions more [] answers broken long still t ts ds = record { behind = t; tables = refl; draws = refl; left = λ o. refl }
  leaves_flown [] positions more (one ∷ given) answers broken long still t ts ds = absurd still
  leaves_flown (f ∷ fs) positions more [] answers broken long still t ts ds = absurd (omega (arith, long))
  leaves_flown (f ∷ fs) positions more (one ∷ given) answers broken long still t ts ds =
      let own = still_there f t ts ds broken still.0 in
      let here = after (head_of broken) (at_position f.position t) f.stmt in
      let rest = leaves_flown fs positions more given answers (rest_of broken) (omega (arith, long)) still.1 here (own.leaves.tables ∙ ts) (own.leaves.draws ∙ ds) in
      record {
        behind = rest.behind;
        tables = rest.tables ∙ own.leaves.tables;
        draws = rest.draws ∙ own.leaves.draws;
        left = λ o.
            left_served o (positions_in fs ++ positions) t (map Ok (stmts_in fs) ++ more) one (given ++ answers) broken f.position f.stmt own.room
            ∙ rest.left o
            ∙ ap (λ (bs : Broken). left_by o positions rest.behind more answers bs) (drop_rest (length (stmts_in fs)) broken);
      }
