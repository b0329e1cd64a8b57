-- The claim: this record is everything that is proved about the whole, beside what each function ensures; one proof of it is checked
-- by the gate (`claim` of proofs/Claim.antt, which only cites the proofs under their names).
-- Each field is a statement of the file that it names. A new statement in any specs file is a new field here: tests/promises asks
-- for it.
use Rattle.desk.specs.Words as desk
use Rattle.rules.specs.Changes as changes
use Rattle.rules.specs.Need as need
use Rattle.rules.specs.Door as door
use Rattle.rules.specs.Rules as rules
use Rattle.table.specs.LegalWords as legal
use Rattle.pages.specs.Features as features
use Rattle.pages.specs.Aggregate as listing
use Rattle.steps.specs.Order as rows
use Rattle.steps.specs.Edges as table
use Rattle.steps.specs.PastTheTable as past
use Rattle.steps.specs.Firm as firm
use Rattle.steps.specs.IdleBuilds as idle
use Rattle.steps.specs.Demands as demands
use Rattle.steps.specs.Asking as asking
use Rattle.steps.specs.Notices as notices
use Rattle.steps.specs.NoticeCases as told
use Rattle.steps.specs.Holders as holders
use Rattle.card_c.specs.Demands as at_c
use Rattle.card_c.specs.HeldByC as held-by-c
use Rattle.by_reference.specs.Lists as lists
use Rattle.by_reference.specs.Records as records
use Rattle.tape.specs.Pieces as pieces
use Rattle.tape.specs.Runs as runs
use Rattle.tape.specs.Firm as tape

pub record Claim : Type 0 where
  -- ==== demand 1: every input ends "with success or with the one refusal that document 01 names for that input"
  -- on the lent words, and on the card that they hold
  pub exactly : demands.Exactly
  pub exactly_events : demands.ExactlyEvents
  pub exactly_ticks : demands.ExactlyTicks
  pub carried_out : demands.CarriedOut
  pub number_tells : demands.NumberTells
  pub refused : demands.Refused
  pub refused_words : demands.RefusedWords
  pub refused_buffer : demands.RefusedBuffer
  pub refused_handed : demands.RefusedHanded
  -- of set-up, which is no item
  pub set_up_exactly : demands.SetUpExactly
  pub set_up_refused : demands.SetUpRefused
  pub set_up_legal : demands.SetUpLegal
  -- what is legal, word by word
  pub legal_words : legal.LegalWords
  pub desk_legal_words : desk.LegalWords
  pub legal_desks : desk.LegalDesks
  -- ==== demand 2: what each item does
  -- the table of window changes, and the door between windows
  pub off_refuses : changes.OffRefuses
  pub leads : door.Leads
  pub starts_anew : door.StartsAnew
  pub held_stays : door.HeldStays
  pub carries_none : rules.CarriesNone
  -- 02, "Short windows pay too much": the need after a window, and that of each way into N
  pub need_within : need.NeedWithin
  pub need_rises : need.NeedRises
  pub need_ends : need.NeedEnds
  pub need_rounded : need.NeedRounded
  pub enabling_needs_high : door.EnablingNeedsHigh
  pub leaving_needs : door.LeavingNeeds
  pub time_up_needs_high : door.TimeUpNeedsHigh
  pub time_up_recovers : rules.TimeUpRecovers
  pub need_stays : rules.NeedStays
  -- warnings
  pub zero_never_warns : rules.ZeroNeverWarns
  pub above_warns_on_entry : rules.AboveWarnsOnEntry
  pub own_warning : rules.OwnWarning
  -- "What Set Features stores, Get Features hands back."
  pub data_back : features.DataBack
  pub config_stored : demands.ConfigStored
  pub window_stored : demands.WindowStored
  pub only_set_turns : notices.OnlySetTurns
  pub notices_stored : notices.NoticesStored
  -- page 0Bh: "the count is its ones and the next entry its lowest one"
  pub one_word : listing.OneWord
  pub count_is_ones : listing.CountIsOnes
  pub next_is_lowest : listing.NextIsLowest
  -- ==== demand 3: each set by itself, on the card
  -- its record, and the answers to the items that name it
  pub named_items : demands.NamedItems
  pub own_record : demands.OwnRecord
  pub by_rules : demands.ByRules
  pub own_answers : demands.OwnAnswers
  pub joined : demands.Joined
  -- the aggregate log
  pub listed : demands.Listed
  pub picked_ids : demands.PickedIds
  pub aggregate : demands.Aggregate
  pub aggregate_log : demands.AggregateLog
  pub in_order : demands.InOrder
  pub stays_listed : demands.StaysListed
  -- items that name different sets may change places
  pub swap : demands.Swap
  pub swap_within : demands.SwapWithin
  pub swap_asks : notices.SwapAsks
  pub notices_move : notices.NoticesMove
  -- ==== 02, "Wake the host": notices, on the card
  pub card_kept : notices.CardKept
  -- when one goes out, and what is remembered where none does
  pub sent_only : notices.SentOnly
  pub held_else : notices.HeldElse
  -- each request once at most, in turn
  pub in_turn : notices.InTurn
  -- no listing unheard
  pub no_listing_unheard : notices.NoListingUnheard
  pub served_at_once : notices.ServedAtOnce
  pub woken : notices.Woken
  pub one_at_most : notices.OneAtMost
  -- each of its sentences on one item
  pub cases_hold : told.CasesHold
  -- ==== 02, "Sixty-four sessions": Identify asked again, on the card
  -- any items, where the asks of a host among them follow each other so; no ask is refused; and a host that asks so
  pub asking_gives : asking.AskingGives
  pub ask_answered : asking.AskAnswered
  pub each_set_once : asking.EachSetOnce
  -- ==== on the lent words
  -- a run over words is the card's
  pub words_stay : demands.WordsStay
  pub words_run : demands.WordsRun
  pub words_trace : demands.WordsTrace
  pub words_notices : demands.WordsNotices
  pub words_swap : demands.WordsSwap
  -- "hands back" of demand 2, demand 3, 02's notices and asking again, of calls, one after another: with a reply, and with a part
  -- handed back
  pub words_demand : holders.WordsDemand
  pub part_demand : holders.PartDemand
  -- "words past it are neither read nor written"
  pub not_read : past.NotRead
  pub not_written : past.NotWritten
  pub set_up_not_read : past.SetUpNotRead
  pub set_up_not_written : past.SetUpNotWritten
  -- ==== for C
  -- demand 1
  pub refused_item : at_c.RefusedItem
  pub refused_set_up : at_c.RefusedSetUp
  -- "hands back" of demand 2, demand 3, 02's notices and asking again, of calls on one region, one after another; no listing is lost to
  -- another set
  pub set_up_legal_at_c : held-by-c.SetUpLegalAtC
  pub demand_at_c : held-by-c.DemandAtC
  pub listing_never_lost : held-by-c.ListingNeverLost
  -- ==== "Edges to show", and rows "checked in this order"
  pub edges : table.Edges
  pub order : rows.Order
  -- ==== "Any two outcomes allowed by one statement are shown to coincide"
  pub one_set_up : firm.OneSetUp
  pub one_answer : firm.OneAnswer
  pub one_handed : firm.OneHanded
  pub one_set_up_at_c : at_c.OneSetUp
  pub one_item : at_c.OneItem
  pub one_charge : records.OneCharge
  -- ==== "Five idle builds are shut out."
  pub not_refusing_all : idle.NotRefusingAll
  pub not_alike : idle.NotAlike
  pub not_still : idle.NotStill
  pub not_first_only : idle.NotFirstOnly
  pub marks_counted : idle.MarksCounted
  pub ones_counted : idle.OnesCounted
  pub lowest_first : idle.LowestFirst
  -- ==== lent lists and lent records
  pub their_own : lists.TheirOwn
  pub too_many : lists.TooMany
  pub stays_legal : records.StaysLegal
  -- ==== the replay file and its printout
  -- whatever the pieces are in which a file is read, their texts, joined, are its printout; and a call moves on
  pub printed : pieces.Printed
  pub moves_on : pieces.MovesOn
  -- the whole run, and each way in which a file can end
  pub runs_hold : runs.RunsHold
  -- two outcomes of a line that is put and of one that is shown, of an item and of a piece that is played, are the same
  pub one_line : tape.OneLine
  pub one_shown : tape.OneShown
  pub one_play : tape.OnePlay
  pub one_piece : tape.OnePiece
