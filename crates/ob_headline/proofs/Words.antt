-- The words that the proofs of this crate name most, passed on from one place. Declares nothing.
pub use Rattle.std.proofs.Common.{ap, append-nil, append_assoc, arith, Bool, drop, Err, false, inl, inr, IsTrue, length, length-append, List, None, Ok, Option, refl, Result, Some, subst, suc, sym, take, true, zero, ℕ, [], ◌*◌, ◌++◌, ◌+◌, ◌-◌, ◌<◌, ◌^◌, ◌∙◌, ◌∷◌, ◌≡◌, ◌≤◌, ◌⊎◌}
pub use Rattle.std.proofs.lemmas.Bool.{cases_lt}
pub use Rattle.std.proofs.lemmas.Bool.Decides.{nat_tests}
pub use Rattle.std.proofs.lemmas.List.{take-append-drop, take-append-le}
pub use Rattle.std.proofs.lemmas.List.Elements.{All-head}
pub use Rattle.std.specs.List.{All}
pub use Rattle.std.specs.Option.{is_none, option_map, option_map_or, option_or}
pub use Rattle.std.specs.Prelude.{codes, if◌then◌else◌, is_some, IsSome, map, MatchBool, nat_le, nat_lt, not, slice_get, ⊤, ◌&&◌, ◌==◌}
pub use Rattle.clap.specs.Words.{Text}
pub use Rattle.ob_base.specs.Accesses.{discard_at, read_at, write_at}
unfoldable pub use Rattle.ob_base.specs.Accesses.{writes}
pub use Rattle.ob_base.specs.Indexes.{by_shape, height_of}
pub use Rattle.ob_base.specs.Limits.{buffered_blocks}
pub use Rattle.ob_base.specs.Lists.{each}
pub use Rattle.ob_base.specs.Schemas.{columns_of}
pub use Rattle.ob_base.specs.Stored.{headings, headings_of, Stored, stored_at, stored_regions}
pub use Rattle.ob_base.specs.declared.access.Access.{Access}
pub use Rattle.ob_base.specs.declared.access.Access.TheVariants.{Discard, Make, Open, Read, Write}
pub use Rattle.ob_base.specs.declared.config.Config.{Config}
pub use Rattle.ob_base.specs.declared.config.Plan.{Plan}
pub use Rattle.ob_base.specs.declared.config.Plan.TheVariants.{Continuous, Hash, Large, Small}
pub use Rattle.ob_base.specs.declared.config.Public.{Public}
pub use Rattle.ob_base.specs.declared.fault.Failed.{Failed}
pub use Rattle.ob_base.specs.declared.refusal.Refusal.{Refusal}
pub use Rattle.ob_base.specs.declared.refusal.Refusal.TheVariants.{StoreFault}
pub use Rattle.ob_base.specs.declared.schema.Heading.{Heading}
pub use Rattle.ob_base.specs.declared.schema.Shape.{Shape}
pub use Rattle.ob_base.specs.declared.schema.Shape.TheVariants.{Flat, Indexed}
pub use Rattle.ob_base.specs.declared.schema.Table.{Table}
pub use Rattle.ob_base.specs.declared.seen.End.{End}
pub use Rattle.ob_base.specs.declared.seen.End.TheVariants.{AfterCount, Cut, Batched, Static, Whole}
pub use Rattle.ob_base.specs.declared.seen.Seen.{Seen}
pub use Rattle.ob_base.specs.declared.skeleton.Skeleton.{Skeleton}
pub use Rattle.ob_mean.proofs.ReplayLemmas.{after_room}
pub use Rattle.ob_mean.proofs.VerdictLemmas.{headings-database}
pub use Rattle.ob_mean.specs.Batches.{batch_most, Gathering, gathering_after, goes_into, is_cut, is_joined}
pub use Rattle.ob_mean.specs.Flats.{AreFlat}
pub use Rattle.ob_mean.specs.Lawful.{Holds, Lawful}
pub use Rattle.ob_mean.specs.Refusals.{early_refusal, limits_of}
pub use Rattle.ob_mean.specs.Replay.{after, after_all, Broken, how_now, is_access, is_full_now, seen_now, seen_or_cut, served, served_full, Session, Spelt}
pub use Rattle.ob_mean.specs.Settle.{settle}
pub use Rattle.ob_mean.specs.Verdict.{ended, Tables}
pub use Rattle.ob_print.specs.Cuts.{Outputs}
pub use Rattle.ob_reopen.specs.Closed.{is_used_up}
pub use Rattle.ob_reopen.specs.Closings.{mark_of}
pub use Rattle.ob_reopen.specs.Keepers.{KeeperState}
pub use Rattle.ob_reopen.specs.declared.closing.Closing.{Closing}
pub use Rattle.ob_reopen.specs.declared.fault.CloseErr.{CloseErr}
pub use Rattle.ob_reopen.specs.declared.listed.Listed.{Listed}
pub use Rattle.ob_reopen.specs.declared.mark.Mark.{Mark}
pub use Rattle.ob_reopen.specs.declared.mark.Mark.TheVariants.{Begun, Closed, Fresh, InUse, Saved}
pub use Rattle.ob_script.proofs.Eaches.{get_back, get_front}
pub use Rattle.ob_script.proofs.FlightLemmas.{trace_alone}
pub use Rattle.ob_script.specs.Parts.{count_part, insert_part, join_part, path_read, path_write, rewrite_part}
pub use Rattle.ob_script.specs.Script.{script}
pub use Rattle.ob_script.specs.Tables.{tables_after, tables_then}
pub use Rattle.ob_script.specs.Trace.{next, Served, trace}
pub use Rattle.ob_seal.specs.KeySet.{KeySet}
pub use Rattle.ob_seal.specs.Sealed.{keys_of}
pub use Rattle.ob_sql.specs.Skeleton.{skeleton}
pub use Rattle.ob_sql.specs.declared.stmt.Stmt.{Stmt}
pub use Rattle.ob_store.specs.State.{KeptRegion, StoreState}
pub use Rattle.ob_vault.specs.State.{Start}
pub use Rattle.ob_vault.specs.Tied.{at_of}
pub use Rattle.ob_verdict.proofs.PlainSettings.{plain}
pub use Rattle.ob_verdict.specs.Alike.{AreAlike}
pub use Rattle.ob_verdict.specs.Outcomes.{refusal_now}
pub use Rattle.ob_verdict.specs.declared.outcome.Outcome.TheVariants.{Refused}
pub use Rattle.ob_headline.specs.Accesses.{Accesses}
unfoldable pub use Rattle.ob_headline.specs.Accesses.{AreSeen}
pub use Rattle.ob_headline.specs.Bases.{Base, drawing, flying, fresh, FromEach, Opened, public_with, session_at, start}
pub use Rattle.ob_headline.specs.Batches.{gathered_now, is_failed, Joins}
pub use Rattle.ob_headline.specs.Disturbed.{first_course}
unfoldable pub use Rattle.ob_headline.specs.Disturbed.{meant_entries}
pub use Rattle.ob_headline.specs.Endings.{status_of}
pub use Rattle.ob_headline.specs.Failures.{outcome_failures}
unfoldable pub use Rattle.ob_headline.specs.Failures.{failures}
pub use Rattle.ob_headline.specs.Flights.{FliesNone, may_fly, most_of, positions_of, trace_of, words_of}
unfoldable pub use Rattle.ob_headline.specs.Flights.{AreEntries, whole_of}
pub use Rattle.ob_headline.specs.Headline.{Headline}
pub use Rattle.ob_headline.specs.Keeping.{BeginsFrom, closing_named}
pub use Rattle.ob_headline.specs.KeptHeadline.{EndsBehind, RunKept}
pub use Rattle.ob_headline.specs.KeptMarks.{mark_made}
unfoldable pub use Rattle.ob_headline.specs.KeyLine.{after_line}
pub use Rattle.ob_headline.specs.Meaning.{AnswersIn, AnswersMeant}
unfoldable pub use Rattle.ob_headline.specs.Meaning.{AnswersFrom, session_after}
pub use Rattle.ob_headline.specs.Reruns.{asked_by, keys_by, seen_by, SomeRun}
pub use Rattle.ob_headline.specs.SavedHeadline.{RunSaved}
pub use Rattle.ob_headline.specs.Sealing.{IsSealed}
pub use Rattle.ob_headline.specs.Story.{Story}
pub use Rattle.ob_headline.specs.Texts.{texts_in}
pub use Rattle.ob_headline.specs.Words.{Answer, Outside}
pub use Rattle.ob_headline.specs.declared.ending.Ending.{Ending}
pub use Rattle.ob_headline.specs.declared.ending.Ending.TheVariants.{BadKey, Ran, Usage}
pub use Rattle.ob_headline.specs.declared.ending.KeptEnding.{KeptEnding}
pub use Rattle.ob_headline.specs.declared.ending.KeptEnding.TheVariants.{KeeperFault, OtherPack, Plain}
pub use Rattle.ob_headline.specs.declared.ending.Report.{Report}
pub use Rattle.ob_headline.specs.declared.flight.FlightSettings.{FlightSettings}
