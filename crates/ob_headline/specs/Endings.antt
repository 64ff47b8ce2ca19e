-- How a run ends, its status and its last line.
use Rattle.std.specs.Prelude.{ℕ, Bool, true, false, List, [], codes, Result, Ok, Err}
use Rattle.ob_base.specs.declared.refusal.Stop.{Stop}
use Rattle.ob_base.specs.declared.refusal.Stop.TheVariants.{Tampered, SourceFault, SinkFault, NoMemory, InputLimit, StoreFault, StashFull, KeeperFault}
use Rattle.ob_headline.specs.declared.ending.Ending.{Ending}
use Rattle.ob_headline.specs.declared.ending.Ending.TheVariants.{Usage, BadKey, Ran}
use Rattle.ob_print.specs.Lines.{stop_line}

abbrev pub ran_status : Result Bool Stop → ℕ
ran_status (Ok false) = 0
ran_status (Ok true) = 1
ran_status (Err (Tampered region place)) = 4
ran_status (Err SourceFault) = 5
ran_status (Err SinkFault) = 6
ran_status (Err NoMemory) = 7
ran_status (Err InputLimit) = 8
ran_status (Err StoreFault) = 3
ran_status (Err StashFull) = 11
ran_status (Err KeeperFault) = 10

abbrev pub status_of : Ending → ℕ
status_of Usage = 2
status_of BadKey = 2
status_of (Ran ran) = ran_status ran

abbrev pub ran_line : Result Bool Stop → List ℕ
ran_line (Ok refused) = []
ran_line (Err stop) = stop_line stop

abbrev pub last_line : Ending → List ℕ
last_line Usage = codes "! usage\n"
last_line BadKey = codes "! key\n"
last_line (Ran ran) = ran_line ran

-- it stopped as tampered
abbrev pub is_tampered : Ending → Bool
is_tampered Usage = false
is_tampered BadKey = false
is_tampered (Ran (Err (Tampered region place))) = true
is_tampered (Ran _) = false
