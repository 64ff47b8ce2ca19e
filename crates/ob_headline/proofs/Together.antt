-- What is seen of INSERTs that are served together, by the laws of what runs ask, computed.
use Rattle.ob_headline.proofs.Words.{End, Err, Batched, List, map, None, Ok, Option, Public, refl, Served, Some, Spelt, Static, Whole, ℕ, [], ◌∷◌, ◌≡◌}
use Rattle.ob_base.specs.Accesses.{makes}
use Rattle.ob_headline.specs.Reruns.{shown_plainly, stated, stated_in}
use Rattle.ob_sql.specs.declared.stmt.Stmt.TheVariants.{Insert}
use Rattle.ob_verdict.proofs.Sessions.{by_four, create_t, insert, int, t}

abbrev ends_of : Option ℕ → List Spelt → List End
ends_of batch spelt =
    let p : Public = record by_four { batch = batch } in
    map (λ (x : Served). x.seen.end) (shown_plainly p 0 None (stated_in p spelt))

-- four of them, a text that is no statement, and three more, of which the second is refused before any access
abbrev texts : List Spelt
texts =
    create_t ∷ insert t 1 10 ∷ insert t 2 20 ∷ insert t 3 30 ∷ insert t 4 40 ∷ Err 7 ∷ insert t 5 50
    ∷ Ok (Insert t None (int 6 ∷ [])) ∷ insert t 7 70 ∷ []

together : ends_of (Some 3) texts ≡ Whole ∷ Whole ∷ Batched ∷ Batched ∷ Whole ∷ Whole ∷ Static ∷ Batched ∷ []
unfolding makes shown_plainly stated
together = refl

one_by_one : ends_of None texts ≡ Whole ∷ Whole ∷ Whole ∷ Whole ∷ Whole ∷ Whole ∷ Static ∷ Whole ∷ []
unfolding makes shown_plainly stated
one_by_one = refl
