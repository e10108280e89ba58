-- The numbers of the layouts: codes, marks and ranges.
use Rattle.std.specs.Prelude.{ℕ}
use Rattle.bg_match.specs.declared.limits.Rules.{Rules}
use Rattle.bg_match.specs.declared.limits.Rules.TheVariants as rules

-- ---- the code of an entry, and of the action that it answers

abbrev pub opening_code : ℕ
opening_code = 1

abbrev pub rolled_code : ℕ
rolled_code = 2

abbrev pub doubled_code : ℕ
doubled_code = 3

abbrev pub taken_code : ℕ
taken_code = 4

abbrev pub dropped_code : ℕ
dropped_code = 5

abbrev pub moved_code : ℕ
moved_code = 6

abbrev pub resigned_code : ℕ
resigned_code = 7

abbrev pub accepted_code : ℕ
accepted_code = 8

abbrev pub rejected_code : ℕ
rejected_code = 9

-- the code of a pass, which answers no action
abbrev pub passed_code : ℕ
passed_code = 10

-- ---- the code of a level

abbrev pub normal_code : ℕ
normal_code = 1

abbrev pub gammon_code : ℕ
gammon_code = 2

abbrev pub backgammon_code : ℕ
backgammon_code = 3

-- ---- what a die shows

abbrev pub least_pips : ℕ
least_pips = 1

abbrev pub most_pips : ℕ
most_pips = 6

-- ---- where a step begins, and how many a turn has

abbrev pub lowest_start : ℕ
lowest_start = 1

abbrev pub bar : ℕ
bar = 25

abbrev pub most_steps : ℕ
most_steps = 4

-- ---- the number of the first entry

abbrev pub first_number : ℕ
first_number = 1

-- ---- parties: the referee, the seats, and those that watch

abbrev pub referee : ℕ
referee = 0

abbrev pub seat_of_x : ℕ
seat_of_x = 1

abbrev pub seat_of_o : ℕ
seat_of_o = 2

abbrev pub first_watcher : ℕ
first_watcher = 3

abbrev pub last_watcher : ℕ
last_watcher = 255

-- ---- packets

-- the bytes 42 47
abbrev pub packet_magic : ℕ
packet_magic = 0x4247

abbrev pub packet_version : ℕ
packet_version = 2

abbrev pub want_kind : ℕ
want_kind = 1

abbrev pub claim_kind : ℕ
claim_kind = 2

abbrev pub entries_kind : ℕ
entries_kind = 3

abbrev pub most_in_packet : ℕ
most_in_packet = 8

-- how many bytes a packet's text has at most
abbrev pub longest_packet : ℕ
longest_packet = 98

-- how many bytes a datagram has at most
abbrev pub longest_datagram : ℕ
longest_datagram = 128

-- the offsets of the fields whose faults have names of their own

abbrev pub magic_offset : ℕ
magic_offset = 0

abbrev pub version_offset : ℕ
version_offset = 2

abbrev pub kind_offset : ℕ
kind_offset = 3

-- and of the byte that tells the rules

abbrev pub rules_offset : ℕ
rules_offset = 12

-- ---- the rules that a match is played by

abbrev pub rules_one : ℕ
rules_one = 1

abbrev pub rules_two : ℕ
rules_two = 2

abbrev pub rules_code : Rules → ℕ
rules_code rules.One = rules_one
rules_code rules.Two = rules_two

-- ---- saved texts

-- how many bytes a saved text has at most
abbrev pub longest_saved_text : ℕ
longest_saved_text = 10000038

abbrev pub least_save : ℕ
least_save = 1

abbrev pub greatest_save : ℕ
greatest_save = 4294967295

-- whether a claim follows
abbrev pub no_claim_flag : ℕ
no_claim_flag = 0

abbrev pub claim_flag : ℕ
claim_flag = 1
