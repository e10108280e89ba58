use Rattle.std.proofs.Common.{◌≡◌, ◌≤◌, true, take, length}
use Rattle.std.specs.Str.{all_ascii_digits}
use Rattle.std.specs.Str.Parse.{digits_value}
use Rattle.bg_mat.proofs.rows.numbers.read_number.Given as goal

abbrev pub invariant-loop-byte : goal.invariant-loop-byte
invariant-loop-byte l = record {
  value : l.value ≡ digits_value 10 (take l.byte-index l.word);
  digits : all_ascii_digits (take l.byte-index l.word) ≡ true;
  some : 1 ≤ length l.word;
  four : length l.word ≤ 4;
}
