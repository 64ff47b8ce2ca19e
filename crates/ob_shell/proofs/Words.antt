-- The words that the proofs of this crate name most, passed on from one place. Declares nothing.
pub use Rattle.std.proofs.Common.{ap, append-nil, append_assoc, arith, Bool, Err, false, inl, inr, IsTrue, length, length-append, List, None, Ok, Option, refl, Result, rules, Some, subst, suc, sym, take-append-drop, true, zero, ℕ, [], ◌++◌, ◌+◌, ◌-◌, ◌<◌, ◌^◌, ◌||◌, ◌∙◌, ◌∷◌, ◌≡◌, ◌≤◌, ◌⊎◌}
pub use Rattle.std.proofs.KnownBytes.{Appends-nil, Appends-trans}
pub use Rattle.std.proofs.lemmas.Bool.{cases_lt}
pub use Rattle.std.proofs.lemmas.Bool.Decides.{nat_tests}
pub use Rattle.std.proofs.lemmas.List.{append_cancel_left, length-map, take-append-le}
pub use Rattle.std.proofs.lemmas.List.Elements.{All-cons, All-head, All-nil, All-tail, All-weaker}
pub use Rattle.std.proofs.lemmas.Slice.Eq.{bytes_eq-Decides}
pub use Rattle.std.specs.Io.KnownBytes.{Appends, IsAtEnd}
pub use Rattle.std.specs.List.{All, list_any}
pub use Rattle.std.specs.Option.{option_map, option_map_or}
pub use Rattle.std.specs.Prelude.{drop, IfOk, if◌then◌else◌, is_some, map, nat_le, nat_lt, slice_get, string_bytes, take, ⊤, ◌&&◌, ◌≢◌}
pub use Rattle.std.specs.Result.{is_err}
pub use Rattle.ob_base.specs.Counts.{Rises}
pub use Rattle.ob_base.specs.Events.{Event}
pub use Rattle.ob_base.specs.Publics.{first_public}
pub use Rattle.ob_base.specs.Refusals.{is_store_fault}
pub use Rattle.ob_base.specs.Stored.{headings, headings_of}
pub use Rattle.ob_base.specs.declared.access.Access.{Access}
pub use Rattle.ob_base.specs.declared.access.Access.TheVariants.{Read}
pub use Rattle.ob_base.specs.declared.config.Config.{Config}
pub use Rattle.ob_base.specs.declared.config.Plan.{Plan}
pub use Rattle.ob_base.specs.declared.config.Public.{Public}
pub use Rattle.ob_base.specs.declared.refusal.Refusal.{Refusal}
pub use Rattle.ob_base.specs.declared.refusal.Stop.{Stop}
pub use Rattle.ob_base.specs.declared.schema.Heading.{Heading}
pub use Rattle.ob_base.specs.declared.schema.Table.{Table}
pub use Rattle.ob_base.specs.declared.seen.End.{End}
pub use Rattle.ob_base.specs.declared.seen.End.TheVariants.{AfterCount, Cut, Batched, Static, Whole}
pub use Rattle.ob_base.specs.declared.seen.Seen.{Seen}
pub use Rattle.ob_base.specs.declared.skeleton.Skeleton.{Skeleton}
pub use Rattle.ob_exec.proofs.FlightLists.{served_long}
pub use Rattle.ob_exec.proofs.LeavesRead.{Given}
pub use Rattle.ob_exec.specs.InFlight.{IsFlown, served_as}
pub use Rattle.ob_exec.specs.RanBatch.{RanBatch}
pub use Rattle.ob_gen.specs.Generated.{GeneratedState}
pub use Rattle.ob_gen.specs.Tally.{empty_tally}
pub use Rattle.ob_gen.specs.declared.tally.Tally.{Tally}
pub use Rattle.ob_headline.proofs.FullLemmas.{met_script}
pub use Rattle.ob_headline.specs.Bases.{Base, flying, fresh, FromEach}
pub use Rattle.ob_headline.specs.Batches.{AnsweredExcept}
unfoldable pub use Rattle.ob_headline.specs.Batches.{AllInsert}
pub use Rattle.ob_headline.specs.Closing.{closing_line}
pub use Rattle.ob_headline.specs.Endings.{is_tampered, last_line, status_of}
pub use Rattle.ob_headline.specs.Failures.{RisesBy}
unfoldable pub use Rattle.ob_headline.specs.Failures.{cut_off}
pub use Rattle.ob_headline.specs.Flights.{gathered_then, may_fly, most_flown, place_now, Position}
pub use Rattle.ob_headline.specs.Headline.{Headline}
pub use Rattle.ob_headline.specs.Meaning.{PrintsUntil}
pub use Rattle.ob_headline.specs.Saving.{RestsAlike}
pub use Rattle.ob_headline.specs.Settings.{limit_of}
pub use Rattle.ob_headline.specs.Statements.{Spells}
unfoldable pub use Rattle.ob_headline.specs.Statements.{SpellFirst, statements}
pub use Rattle.ob_headline.specs.Story.{Story}
pub use Rattle.ob_headline.specs.Tracing.{traced}
pub use Rattle.ob_headline.specs.Words.{Answer, before_read, Begins, Faults, faults_of, IsHonest, keys_in, Outside, outside_of, SinksRose, Took}
unfoldable pub use Rattle.ob_headline.specs.Words.{printed}
pub use Rattle.ob_headline.specs.declared.ending.Ending.{Ending}
pub use Rattle.ob_headline.specs.declared.ending.Ending.TheVariants.{BadKey, Ran, Usage}
pub use Rattle.ob_headline.specs.declared.ending.KeptEnding.{KeptEnding}
pub use Rattle.ob_headline.specs.declared.ending.KeptEnding.TheVariants.{Plain}
pub use Rattle.ob_headline.specs.declared.ending.Report.{Report}
pub use Rattle.ob_headline.specs.declared.flight.FlightSettings.{FlightSettings}
pub use Rattle.ob_headline.specs.declared.seed.Seed.{Seed}
pub use Rattle.ob_io.specs.Causes.{HasCause}
pub use Rattle.ob_mean.proofs.BatchLemmas.{begins, most_some}
pub use Rattle.ob_mean.specs.Batches.{batch_most, begins_batch, Gathering, inserts_into, is_cut, is_joined, settle_all}
pub use Rattle.ob_mean.specs.Flats.{AreFlat}
pub use Rattle.ob_mean.specs.Refusals.{early_refusal, is_index, limits_of}
pub use Rattle.ob_mean.specs.Replay.{after, done_of, How, is_full_now, seen_or_cut, Session, Spelt}
pub use Rattle.ob_mean.specs.Standing.{StandsAs}
pub use Rattle.ob_mean.specs.Verdict.{Draws, is_late, Tables}
pub use Rattle.ob_oram.specs.declared.index.Index.{Index}
pub use Rattle.ob_print.proofs.CutLemmas.{Outputs-after, Outputs-by, Outputs-fault, Outputs-whole}
pub use Rattle.ob_print.specs.Cuts.{Outputs}
unfoldable pub use Rattle.ob_print.specs.Rows.{events_text}
pub use Rattle.ob_print.specs.Sent.{Sends}
pub use Rattle.ob_reopen.specs.Keepers.{KeeperState}
pub use Rattle.ob_reopen.specs.declared.closing.Closing.{Closing}
pub use Rattle.ob_reopen.specs.declared.fault.CloseErr.{CloseErr}
pub use Rattle.ob_reopen.specs.declared.mark.Mark.{Mark}
pub use Rattle.ob_script.specs.FlightLaws.{SelectsFromOne}
pub use Rattle.ob_script.specs.Flights.{turns_of}
pub use Rattle.ob_script.specs.Script.{script, whole_script}
pub use Rattle.ob_script.specs.Trace.{next}
pub use Rattle.ob_seal.specs.KeySet.{KeySet, pair_of}
pub use Rattle.ob_seal.specs.Sealed.{keys_of}
pub use Rattle.ob_sql.specs.Skeleton.{skeleton}
pub use Rattle.ob_sql.specs.declared.stmt.Stmt.{Stmt}
pub use Rattle.ob_store.specs.Calls.{IsBefore, IsSteady}
pub use Rattle.ob_store.specs.Runs.{Since}
pub use Rattle.ob_store.specs.State.{Disturbance, KeptRegion, FalseRead, StoreState}
pub use Rattle.ob_tables.proofs.CutLemmas.{end_cut}
pub use Rattle.ob_tables.proofs.HeldLemmas.{held_headings}
pub use Rattle.ob_tables.specs.Agreeing.{Agrees, AreDraws, count_of, engine_keys, engine_start, first_draws, high_of, indexes_of, opened_from, public_of, rows_of, seen_of, world_of}
pub use Rattle.ob_tables.specs.Batch.{AreBatch}
pub use Rattle.ob_tables.specs.Running.{is_fault, RefusedEarly}
pub use Rattle.ob_tables.specs.Stops.{session_stop}
pub use Rattle.ob_tables.specs.Telling.{answer_labels, Emitted, ReadsTrueUntil, Represents}
pub use Rattle.ob_tables.specs.declared.engine.Engine.{Engine}
pub use Rattle.ob_tables.specs.declared.stop.RunStop.{RunStop}
pub use Rattle.ob_vault.specs.State.{RevState, Start, World}
unfoldable pub use Rattle.ob_vault.specs.State.{earlier}
pub use Rattle.ob_verdict.proofs.AccessedProof.{access_public}
pub use Rattle.ob_verdict.specs.Outcomes.{by_fault, outcome_of, refusal_now}
pub use Rattle.ob_verdict.specs.declared.outcome.Outcome.{Outcome}
pub use Rattle.ob_verdict.specs.declared.outcome.Outcome.TheVariants.{Refused}
pub use Rattle.ob_words.specs.declared.words.WordsErr.{WordsErr}
pub use Rattle.ob_shell.specs.FlightAnswers.{answer_of, RanInFlight}
pub use Rattle.ob_shell.specs.Closed.{LineWritten, refused_by, Unwritten}
pub use Rattle.ob_shell.specs.Feeding.{Fed, Fetch, IsFedBy}
pub use Rattle.ob_shell.specs.Flying.{flights_at, flights_of}
pub use Rattle.ob_shell.specs.KeptSummary.{KeptTally}
pub use Rattle.ob_shell.specs.Leaving.{AreByRegion, BeginsToSave, IsRead, RestsOn}
pub use Rattle.ob_shell.specs.LineRead.{KeyRead}
pub use Rattle.ob_shell.specs.Running.{EndsBy, LastPart, OutFailed, ServesAlone, SessionRan, Silenced, stop_of, StopCause}
pub use Rattle.ob_shell.specs.Steps.{AreSpelt, asked_of, at_rest, CutTogether, Does, FinishedTogether, Flights, Gathered, IsReady, Machine, machine_of, MayFly, more_together, no_flights, one_more, PartlyAt, session_of, standing, statements_of, Step, Steps, StepTogether, told_nothing}
pub use Rattle.ob_shell.specs.Tallies.{flagged, has_refused}
pub use Rattle.ob_shell.specs.Top.{EndingTally, EndsUntampered, IsFresh, LosesSome}
pub use Rattle.ob_shell.specs.Traces.{Traced, TracedAll}
pub use Rattle.ob_shell.specs.declared.feed.Halt.{Halt}
pub use Rattle.ob_shell.specs.declared.keeping.KeptEnded.{KeptEnded}
pub use Rattle.ob_shell.specs.declared.key.FirstLine.{FirstLine}
pub use Rattle.ob_shell.specs.declared.session.TextHalted.{TextHalted}
