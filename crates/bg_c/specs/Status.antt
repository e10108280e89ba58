-- What calls answer: the number of each status, and what it says.
use Rattle.std.specs.Prelude.{ℕ, List, codes}
use Rattle.bg_c.specs.declared.statuses.Status.{Status}
use Rattle.bg_c.specs.declared.statuses.Status.TheVariants as status

abbrev pub status_code : Status → ℕ
status_code status.Ok = 0
status_code status.NoRoom = 1
status_code status.Memory = 2
status_code status.BadArgument = 3
status_code status.NotOpen = 4
status_code status.WrongParty = 5
status_code status.NotAPacket = 6
status_code status.NotAnAction = 7
status_code status.Damaged = 8
status_code status.WrongMatch = 9
status_code status.WrongSave = 10
status_code status.SavesSpent = 11
status_code status.NotYourTurn = 12
status_code status.AlreadyClaimed = 13
status_code status.Illegal = 14
status_code status.NotDue = 15
status_code status.WordRefused = 16
status_code status.NotToMove = 17
status_code status.Refused = 18
status_code status.NotEmpty = 19
status_code status.NothingSaved = 20
status_code status.NotASave = 21
status_code status.Busy = 22
status_code status.Closed = 23
status_code status.Copied = 24
status_code status.OtherSender = 25
status_code status.NoXgid = 26

abbrev pub status_text : Status → List ℕ
status_text status.Ok = codes "it is done"
status_text status.NoRoom = codes "the text does not fit into the room"
status_text status.Memory = codes "there was no memory"
status_text status.BadArgument = codes "an argument is out of its range"
status_text status.NotOpen = codes "the handle holds no party"
status_text status.WrongParty = codes "the call is for a party of another role"
status_text status.NotAPacket = codes "the bytes are no packet"
status_text status.NotAnAction = codes "the text is no action's"
status_text status.Damaged = codes "neither slot has a saved text, and slot 0 is not empty"
status_text status.WrongMatch = codes "what the slots have saved is another party's, or of another match"
status_text status.WrongSave = codes "no save of this number is under way"
status_text status.SavesSpent = codes "4294967295 saves were made"
status_text status.NotYourTurn = codes "another party acts, or nobody"
status_text status.AlreadyClaimed = codes "the last claim is not answered yet"
status_text status.Illegal = codes "the action does not follow the record"
status_text status.NotDue = codes "the referee has nothing to add, or the record is full"
status_text status.WordRefused = codes "the word opens no game"
status_text status.NotToMove = codes "no player is to move"
status_text status.Refused = codes "the transcript is refused"
status_text status.NotEmpty = codes "a new match wants empty slots, and a slot has something"
status_text status.NothingSaved = codes "the slots have no save to go on from"
status_text status.NotASave = codes "the bytes are no saved text"
status_text status.Busy = codes "another call is inside the handle"
status_text status.Closed = codes "the handle was closed"
status_text status.Copied = codes "the handle is a copy, or was moved after it was opened"
status_text status.OtherSender = codes "the packet says another sender"
status_text status.NoXgid = codes "the position has no XGID"
