-- 01, "Status numbers (type x 256 + code)", and those of 02.
use Rattle.std.specs.Prelude.{ℕ}
use Rattle.replies.specs.declared.Refusal.{Refusal}
use Rattle.replies.specs.declared.Refusal.TheVariants.{InvalidOpcode, InvalidField, TooManyRequests, InvalidLogPage, NotSaveable, UnknownSet, TooEarly, TooShort, BadTable, BadSetUp, TickTooLong, BadCommandLength}

-- carried out
abbrev pub success : ℕ
success = 0x0000

-- opcode not listed
abbrev pub invalid_opcode : ℕ
invalid_opcode = 0x0001

-- a field of the command that is not as it must be
abbrev pub invalid_field : ℕ
invalid_field = 0x0002

-- 02: "a fifth gets 0105h": as many requests wait as may
abbrev pub too_many_requests : ℕ
too_many_requests = 0x0105

-- log page not listed
abbrev pub invalid_log_page : ℕ
invalid_log_page = 0x0109

-- Set Features with Save
abbrev pub not_saveable : ℕ
not_saveable = 0x010D

-- an event for a set that is not in the table
abbrev pub unknown_set : ℕ
unknown_set = 0x07C0

-- select D from N too early
abbrev pub too_early : ℕ
too_early = 0x07C1

-- data in, answer buffer or, in set-up, table slice shorter than needed
abbrev pub too_short : ℕ
too_short = 0x07C2

-- table not legal, or slice too short
abbrev pub bad_table : ℕ
bad_table = 0x07C3

-- set-up: number of sets, order, an attribute or a body's length wrong
abbrev pub bad_set_up : ℕ
bad_set_up = 0x07C4

-- tick too long
abbrev pub tick_too_long : ℕ
tick_too_long = 0x07C5

-- command not of 64 bytes
abbrev pub bad_command_length : ℕ
bad_command_length = 0x07C7

-- 02: "each answered 07C8h (waiting, no refusal)"
abbrev pub request_waits : ℕ
request_waits = 0x07C8

-- ---- the refusals of the code, each by its number

abbrev pub number : Refusal → ℕ
number InvalidOpcode = invalid_opcode
number InvalidField = invalid_field
number TooManyRequests = too_many_requests
number InvalidLogPage = invalid_log_page
number NotSaveable = not_saveable
number UnknownSet = unknown_set
number TooEarly = too_early
number TooShort = too_short
number BadTable = bad_table
number BadSetUp = bad_set_up
number TickTooLong = tick_too_long
number BadCommandLength = bad_command_length
