-- The proof of the claim: each statement by its proof, under its name.
use Rattle.desk.proofs.LegalDesks as desks
use Rattle.rules.proofs.Needs.{need_within, need_rises, need_ends, need_rounded}
use Rattle.rules.proofs.Leads.{leads, starts_anew, held_stays, carries_none, enabling_needs_high, leaving_needs, time_up_needs_high, time_up_recovers, need_stays}
use Rattle.rules.proofs.Warnings.{zero_never_warns, above_warns_on_entry, own_warning}
use Rattle.rules.proofs.OffRefuses.{off_refuses}
use Rattle.table.proofs.LegalWords.{legal_words}
use Rattle.pages.proofs.Back.{data_back}
use Rattle.pages.proofs.Listed.{one_word, count_is_ones, next_is_lowest}
use Rattle.steps.proofs.AggregateLog.{aggregate_log}
use Rattle.steps.proofs.EdgesHold.{edges}
use Rattle.steps.proofs.ExactRefusals.{exactly, exactly_events, exactly_ticks, carried_out_lem, number_tells, refused_buffer, refused_handed, set_up_exactly, set_up_refused, set_up_legal}
use Rattle.steps.proofs.FirmPromises.{one_set_up, one_answer, one_handed}
use Rattle.steps.proofs.HeldWords.{words_demand, part_demand}
use Rattle.steps.proofs.IdleRefuted.{not_refusing_all, not_alike, not_still, not_first_only, marks_counted, ones_counted, lowest_first}
use Rattle.steps.proofs.NamedItems.{named_items}
use Rattle.steps.proofs.Asking.{asking_gives, ask_answered, each_set_once}
use Rattle.steps.proofs.NoticeCases.{cases_hold, notices_move, swap_asks}
use Rattle.steps.proofs.Notices.{card_kept, sent_only, held_else, in_turn, no_listing_unheard, served_at_once, woken, one_at_most, only_set_turns, notices_stored}
use Rattle.steps.proofs.OnWords.{refused, refused_words, words_run, words_trace, words_notices, words_swap}
use Rattle.steps.proofs.Order.{order}
use Rattle.steps.proofs.OwnHistory.{own_record, by_rules, own_answers, joined, listed, picked_ids, aggregate, in_order, stays_listed, swap, swap_within}
use Rattle.steps.proofs.PastWords.{not_read, not_written, set_up_not_read, set_up_not_written}
use Rattle.steps.proofs.StoredFeatures.{config_stored, window_stored}
use Rattle.steps.proofs.WordsStay.{words_stay}
use Rattle.card_c.proofs.HeldByC.{set_up_legal_at_c, demand_at_c, listing_never_lost}
use Rattle.card_c.proofs.Refusals.{refused_item, refused_set_up, one_item}
use Rattle.card_c.proofs.Refusals as at_c
use Rattle.by_reference.proofs.OfList.{their_own, too_many}
use Rattle.by_reference.proofs.OfRecord.{one_charge, stays_legal}
use Rattle.tape.proofs.Printed.{printed}
use Rattle.tape.proofs.MovesOn.{moves_on}
use Rattle.tape.proofs.RunsHold.{runs_hold}
use Rattle.tape.proofs.Firm.{one_line, one_shown, one_play, one_piece}
use Rattle.claim.specs.Claim.{Claim}

pub claim : Claim
claim =
    record {
      exactly = exactly;
      exactly_events = exactly_events;
      exactly_ticks = exactly_ticks;
      carried_out = carried_out_lem;
      number_tells = number_tells;
      refused = refused;
      refused_words = refused_words;
      refused_buffer = refused_buffer;
      refused_handed = refused_handed;
      set_up_exactly = set_up_exactly;
      set_up_refused = set_up_refused;
      set_up_legal = set_up_legal;
      legal_words = legal_words;
      desk_legal_words = desks.legal_words;
      legal_desks = desks.legal_desks;
      off_refuses = off_refuses;
      leads = leads;
      starts_anew = starts_anew;
      held_stays = held_stays;
      carries_none = carries_none;
      need_within = need_within;
      need_rises = need_rises;
      need_ends = need_ends;
      need_rounded = need_rounded;
      enabling_needs_high = enabling_needs_high;
      leaving_needs = leaving_needs;
      time_up_needs_high = time_up_needs_high;
      time_up_recovers = time_up_recovers;
      need_stays = need_stays;
      zero_never_warns = zero_never_warns;
      above_warns_on_entry = above_warns_on_entry;
      own_warning = own_warning;
      data_back = data_back;
      config_stored = config_stored;
      window_stored = window_stored;
      only_set_turns = only_set_turns;
      notices_stored = notices_stored;
      one_word = one_word;
      count_is_ones = count_is_ones;
      next_is_lowest = next_is_lowest;
      named_items = named_items;
      own_record = own_record;
      by_rules = by_rules;
      own_answers = own_answers;
      joined = joined;
      listed = listed;
      picked_ids = picked_ids;
      aggregate = aggregate;
      aggregate_log = aggregate_log;
      in_order = in_order;
      stays_listed = stays_listed;
      swap = swap;
      swap_within = swap_within;
      swap_asks = swap_asks;
      notices_move = notices_move;
      card_kept = card_kept;
      sent_only = sent_only;
      held_else = held_else;
      in_turn = in_turn;
      no_listing_unheard = no_listing_unheard;
      served_at_once = served_at_once;
      woken = woken;
      one_at_most = one_at_most;
      cases_hold = cases_hold;
      asking_gives = asking_gives;
      ask_answered = ask_answered;
      each_set_once = each_set_once;
      words_stay = words_stay;
      words_run = words_run;
      words_trace = words_trace;
      words_notices = words_notices;
      words_swap = words_swap;
      words_demand = words_demand;
      part_demand = part_demand;
      not_read = not_read;
      not_written = not_written;
      set_up_not_read = set_up_not_read;
      set_up_not_written = set_up_not_written;
      refused_item = refused_item;
      refused_set_up = refused_set_up;
      set_up_legal_at_c = set_up_legal_at_c;
      demand_at_c = demand_at_c;
      listing_never_lost = listing_never_lost;
      edges = edges;
      order = order;
      one_set_up = one_set_up;
      one_answer = one_answer;
      one_handed = one_handed;
      one_set_up_at_c = at_c.one_set_up;
      one_item = one_item;
      one_charge = one_charge;
      not_refusing_all = not_refusing_all;
      not_alike = not_alike;
      not_still = not_still;
      not_first_only = not_first_only;
      marks_counted = marks_counted;
      ones_counted = ones_counted;
      lowest_first = lowest_first;
      their_own = their_own;
      too_many = too_many;
      stays_legal = stays_legal;
      printed = printed;
      moves_on = moves_on;
      runs_hold = runs_hold;
      one_line = one_line;
      one_shown = one_shown;
      one_play = one_play;
      one_piece = one_piece;
    }
