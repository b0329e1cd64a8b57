-- What is answered, and what the caller's buffer holds then.
use Rattle.std.specs.Prelude.{◌≡◌, Option, None, Some, Result, Ok, Err, List, [], ◌∷◌, ℕ, ◌-◌, ◌≤◌, eqb, length, take, drop, if◌then◌else◌}
use Rattle.std.proofs.lemmas.List.Edits.{sets}
use Rattle.replies.specs.Numbers.{success, request_waits, number}
use Rattle.replies.specs.declared.Refusal.{Refusal}
use Rattle.replies.specs.declared.Reply.{Reply}

-- what may go beside an answer: nothing, or a notice, which completes the waiting request with this identifier
abbrev pub Notice : Type 0
Notice = Option ℕ

-- status, dword 0 and data; no data is the empty list
pub record Answer : Type 0 where
  pub status : ℕ
  pub dword : ℕ
  pub bytes : List ℕ

-- what is answered with a status, dword 0 and data
abbrev pub saying : ℕ → ℕ → List ℕ → Answer
saying status dword bytes = record { status = status; dword = dword; bytes = bytes }

-- a success, with dword 0 and data
abbrev pub granted : ℕ → List ℕ → Answer
granted dword bytes = saying success dword bytes

-- 01: "Each refusal is given exactly then, with dword 0 zero, no data, nothing written."
abbrev pub refused : ℕ → Answer
refused status = saying status 0 []

-- a refusal where the status table gave a number, else a success
abbrev pub answered : ℕ → ℕ → List ℕ → Answer
answered status dword bytes = if eqb status 0 then granted dword bytes else refused status

-- ---- the reply by value, with the notice that may go beside it

abbrev pub replying : ℕ → ℕ → ℕ → Notice → Reply
replying status dword len notice = record { status = status; dword = dword; len = len; notice = notice }

-- to a refusal
abbrev pub refusing : ℕ → Reply
refusing status = replying status 0 0 None

-- and to what is carried out, with dword 0 and so many bytes of data
abbrev pub giving : ℕ → ℕ → Reply
giving dword len = replying success dword len None

-- with nothing to say
abbrev pub done : Reply
done = giving 0 0

-- to a request that waits
abbrev pub awaiting : Reply
awaiting = replying request_waits 0 0 None

-- a reply with this notice beside it
abbrev pub beside_of : Reply → Notice → Reply
beside_of r notice = replying r.status r.dword r.len notice

-- what an item answers in all, where code has a reply or a refusal
abbrev pub reply_of : Result Reply Refusal → Reply
reply_of (Ok r) = r
reply_of (Err r) = refusing (number r)

-- ---- 02: "that request completes with dword 0 = 000B0402h, given beside the item's own answer with the request's identifier"

-- log page 0Bh, which is to be read, in bits 23:16; in 15:8 that it has changed, and in 2:0 that this is a notice
abbrev pub notice_dword : ℕ
notice_dword = 0x000B0402

-- the identifiers that a notice completes: none, or one
abbrev pub told_of : Notice → List ℕ
told_of None = []
told_of (Some id) = id ∷ []

-- as numbers: whether there is a notice, the request's identifier, and its dword 0; zero where there is none
abbrev pub told_no : Notice → ℕ
told_no None = 0
told_no (Some id) = 1

abbrev pub to_no : Notice → ℕ
to_no None = 0
to_no (Some id) = id

abbrev pub notice_of : ℕ → ℕ → Notice
notice_of told to = if eqb told 0 then None else Some to

abbrev pub notice_no : Notice → ℕ
notice_no None = 0
notice_no (Some id) = notice_dword

-- ---- the caller's buffer

-- the part `buffer[from..to]` of a buffer
abbrev pub cut : List ℕ → ℕ → ℕ → List ℕ
cut buffer from to = take (to - from) (drop from buffer)

-- 01: "Data is handed back as that part of the caller's buffer which was written; bytes after it are untouched,
-- and a success without data writes none."
-- A reply and the buffer after it, for an answer and the buffer before.
pub record Replied (a : Answer) (before : List ℕ) (r : Reply) (after : List ℕ) : Type 0 where
  pub status : r.status ≡ a.status
  pub dword : r.dword ≡ a.dword
  pub len : r.len ≡ length a.bytes
  pub within : r.len ≤ length after
  pub buffer : after ≡ sets before 0 a.bytes
  pub part : cut after 0 r.len ≡ a.bytes
