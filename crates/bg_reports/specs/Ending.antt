-- The exit status of the program.
use Rattle.std.specs.Prelude.{ℕ, ◌+◌, ◌-◌, ◌^◌, min, true, false, nat_lt, if◌then◌else◌}
use Rattle.bg_text.specs.declared.judging.verdicts.Verdict.TheVariants.{Fine, Refused, TooLong}
use Rattle.bg_reports.specs.declared.endings.Ending.{Ending}
use Rattle.bg_reports.specs.declared.endings.Ending.TheVariants.{Told, WrongArguments, Judged, Played, Simulated}
use Rattle.bg_reports.specs.declared.endings.Ending.TheVariants.{Shown, Served, ActionRefused, Checked, Failed}
use Rattle.bg_reports.specs.declared.endings.Found.{Found}
use Rattle.bg_reports.specs.declared.endings.Found.TheVariants as found

-- the command was done, and has nothing to refuse
abbrev pub done : ℕ
done = 0

-- reading, writing or memory failed
abbrev pub failed : ℕ
failed = 1

-- the arguments, the transcript, the script, both saved files or one of many files are refused
abbrev pub refused : ℕ
refused = 2

abbrev pub status_of : Ending → ℕ
status_of Told = done
status_of WrongArguments = refused
status_of (Judged (Fine entries)) = done
status_of (Judged (Refused line)) = refused
status_of (Judged TooLong) = refused
status_of (Played (Fine events)) = done
status_of (Played (Refused line)) = refused
status_of (Played TooLong) = refused
status_of Simulated = done
status_of Served = done
status_of ActionRefused = refused
status_of (Shown true) = done
status_of (Shown false) = refused
status_of (Checked found.Good) = done
status_of (Checked found.Refused) = refused
status_of (Checked found.Unjudged) = failed
status_of Failed = failed

-- the worst that was found where so many files are refused, and so many could not be judged
abbrev pub worst_of : ℕ → ℕ → Found
worst_of refusals unjudged =
    if nat_lt 0 unjudged then found.Unjudged else if nat_lt 0 refusals then found.Refused else found.Good

-- the number of files of which so many are good, so many refused and so many not judged: at most
-- the greatest number of 64 bits
abbrev pub files_in : ℕ → ℕ → ℕ → ℕ
files_in good refusals unjudged = min (good + refusals + unjudged) (2 ^ 64 - 1)
