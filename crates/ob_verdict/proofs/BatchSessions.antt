-- Sessions of INSERTs that are served together.
use Rattle.std.proofs.Common.{◌≡◌, ℕ, List, [], ◌∷◌, ◌++◌, refl}
use Rattle.std.specs.Prelude.{Some, None, Ok, Err, codes}
use Rattle.ob_base.specs.declared.access.Access.{Access}
use Rattle.ob_base.specs.declared.access.Access.TheVariants.{Make, Read, Write, Discard}
use Rattle.ob_base.specs.declared.config.Planner.TheVariants.{Auto}
use Rattle.ob_base.specs.declared.config.Public.{Public}
use Rattle.ob_base.specs.declared.refusal.Refusal.TheVariants.{Duplicate, Full, StoreFault, WrongType}
use Rattle.ob_base.specs.declared.schema.Shape.TheVariants.{Indexed}
use Rattle.ob_base.specs.Accesses.{makes}
use Rattle.ob_sql.specs.declared.stmt.Listed.TheVariants.{CountAll}
use Rattle.ob_sql.specs.declared.stmt.Literal.TheVariants.{Text as TextLiteral}
use Rattle.ob_sql.specs.declared.stmt.Stmt.TheVariants.{Create, Insert}
use Rattle.ob_mean.specs.declared.answer.Answer.{Answer}
use Rattle.ob_mean.specs.declared.answer.Answer.TheVariants.{Done, Refused, Rows}
use Rattle.ob_mean.specs.Batches.{batch_most}
use Rattle.ob_mean.specs.Replay.{Alone, Broken, CutAfter, CutWith, Spelt, With, answers, first_session, hows}
use Rattle.ob_verdict.proofs.Sessions.{by_four, by_settings, column, create_t, id, insert, int, ints, select_items, t, trace_of, u, v}

-- at most so many together
abbrev batched : ℕ → Public
batched m = record by_four { batch = Some m }

-- no more than may have rows open beside a block's
few_open : batch_most (batched 9) ≡ 3
few_open = refl

abbrev count_all : Spelt
count_all = select_items (CountAll ∷ []) None None

abbrev counts : ℕ → Answer
counts n = Rows (ints (n ∷ []) ∷ [])

abbrev hows_by : Public → List Spelt → Broken
hows_by p texts = hows None (first_session p) texts

-- three of them, the third with the key of the first; three again, of which one is refused before any access; and two of one
-- key, for which there is no slot left
abbrev inserts : List Spelt
inserts =
    create_t ∷ insert t 1 10 ∷ insert t 2 20 ∷ insert t 1 30 ∷ insert t 3 30 ∷ Ok (Insert t None (TextLiteral (codes "a") ∷ int 1 ∷ []))
    ∷ insert t 4 40 ∷ insert t 5 50 ∷ insert t 5 60 ∷ count_all ∷ []

together : hows_by (batched 3) inserts ≡ Alone ∷ Alone ∷ With ∷ With ∷ Alone ∷ Alone ∷ With ∷ Alone ∷ With ∷ Alone ∷ []
unfolding makes
together = refl

answered_together : answers (first_session (batched 3)) inserts (hows_by (batched 3) inserts)
    ≡ Done ∷ Done ∷ Done ∷ Refused Duplicate ∷ Done ∷ Refused WrongType ∷ Done ∷ Refused Full ∷ Refused Full ∷ counts 4 ∷ []
unfolding makes
answered_together = refl

-- the accesses of an INSERT
abbrev made : List Access
made = Make 1 4 49 ∷ Write 1 0 ∷ Write 1 1 ∷ Write 1 2 ∷ Write 1 3 ∷ []

abbrev read : ℕ → List Access
read a = Read a 0 ∷ Read a 1 ∷ Read a 2 ∷ Read a 3 ∷ []

abbrev pass : (a b : ℕ) → List Access
pass a b =
    Make b 4 49 ∷ read a
    ++ Read a 0 ∷ Write b 0 ∷ Read a 1 ∷ Write b 1 ∷ Read a 2 ∷ Write b 2 ∷ Read a 3 ∷ Write b 3 ∷ Discard a ∷ []

asked_together : trace_of (batched 3) inserts (hows_by (batched 3) inserts) ≡ made ++ pass 1 2 ++ pass 2 3 ++ pass 3 4 ++ read 4
unfolding makes
asked_together = refl

-- the store fails at the fourth access of the pass, and the table is as it was
failed_together : answers (first_session (batched 3)) (create_t ∷ insert t 1 10 ∷ insert t 2 20 ∷ insert t 3 30 ∷ count_all ∷ []) (Alone ∷ CutAfter 4 ∷ CutWith ∷ CutWith ∷ [])
    ≡ Done ∷ Refused StoreFault ∷ Refused StoreFault ∷ Refused StoreFault ∷ counts 0 ∷ []
unfolding makes
failed_together = refl

failed_trace : trace_of (batched 3) (create_t ∷ insert t 1 10 ∷ insert t 2 20 ∷ insert t 3 30 ∷ count_all ∷ []) (Alone ∷ CutAfter 4 ∷ CutWith ∷ CutWith ∷ [])
    ≡ made ++ Make 2 4 49 ∷ Read 1 0 ∷ Read 1 1 ∷ Read 1 2 ∷ read 1
unfolding makes
failed_trace = refl

-- another table, which there isn't, and a text that is no statement end what is gathered
apart : hows_by (batched 3) (create_t ∷ insert t 1 10 ∷ insert u 1 7 ∷ insert t 2 20 ∷ Err 3 ∷ insert t 3 30 ∷ [])
    ≡ Alone ∷ Alone ∷ Alone ∷ Alone ∷ Alone ∷ Alone ∷ []
unfolding makes
apart = refl

-- nothing is where it isn't asked for, nor for an index
unbatched : hows_by by_four inserts ≡ Alone ∷ Alone ∷ Alone ∷ Alone ∷ Alone ∷ Alone ∷ Alone ∷ Alone ∷ Alone ∷ Alone ∷ []
unfolding makes
unbatched = refl

into_index : hows_by (record (by_settings 64 5 1 Auto None) { batch = Some 3 }) (Ok (Create t (column id 1 ∷ column v 0 ∷ []) 4 Indexed) ∷ insert t 1 10 ∷ insert t 2 20 ∷ [])
    ≡ Alone ∷ Alone ∷ Alone ∷ []
unfolding makes
into_index = refl
