-- A cycle in a sentence: what each of its transactions saw of another one, and what not: `in short:
-- 2.1 saw 1.1's x, but did not see 1.1's y`.
use Rattle.std.specs.Prelude.{ℕ, ◌-◌, ◌||◌, ◌&&◌, Bool, true, not, nat_lt, if◌then◌else◌, List, [], ◌∷◌, ◌++◌, codes, decimal, length, take, drop, reverse, nat_eq, Option, None, Some}
use Rattle.std.specs.List.{prefix_len}
use Rattle.session_log.specs.Text.{ClientSession}
use Rattle.reasons.specs.declared.reason.Reason.{Reason}
use Rattle.reasons.specs.declared.reason.Reason.TheVariants as reason
use Rattle.tell_reasons.specs.Reasons.{named, key_text, op_at}
use Rattle.tell_reasons.specs.Versions.{left_at}
use Rattle.tell_reasons.specs.declared.why.Why.{Why}
use Rattle.tell_reasons.specs.declared.why.Why.TheVariants as why
use Rattle.tell_steps.specs.declared.item.Item.{Item}
use Rattle.tell_steps.specs.declared.item.Item.TheVariants.{Edge}
use Rattle.tell_decision.specs.Names.{kind_of, reads_first}
use Rattle.tell_decision.specs.declared.short.TheConstants.{MOST_EDGES}
use Rattle.log_lines.specs.declared.placed.PlacedHistory.{PlacedHistory}

-- no edge, or one whose first transaction did not see a write of the second one
abbrev pub misses : List ClientSession → Item → Bool
misses ss (Edge a b w) = nat_lt 0 (kind_of ss a w).missed
misses ss _ = true

-- what leads to the words of an edge, which misses a write or does not, from those of another one,
-- where there is such: they go on these, where both are of one transaction
abbrev pub lead_text : PlacedHistory → Option Bool → Bool → ℕ → List ℕ
lead_text log None missed v = codes "in short: " ++ named log v
lead_text log (Some was) missed v =
    if missed && not was then codes ", but" else codes "; " ++ named log v

-- a write that is not seen, by its key
abbrev pub unseen_text : PlacedHistory → ℕ → ℕ → List ℕ
unseen_text log v i = codes " did not see "
    ++ (named log v ++ (codes "'s " ++ key_text (op_at log.history.now v i)))

abbrev pub known_text : PlacedHistory → ℕ → ℕ → Reason → List ℕ
known_text log a b reason.Session = codes " came after " ++ (named log a ++ codes " in its session")
known_text log a b reason.Moments = codes " began after " ++ (named log a ++ codes " ended")
known_text log a b (reason.Read written read) = codes " saw "
    ++ (named log a ++ (codes "'s " ++ key_text (op_at log.history.now a written)))
known_text log a b (reason.Overwritten read overwrites) = unseen_text log b overwrites
known_text log a b (reason.Initial read begins) = unseen_text log b begins

-- the last write of key number x in node v, where this reads nothing of it before
abbrev pub written_unread : List ClientSession → ℕ → ℕ → Option ℕ
written_unread ss x v = if reads_first ss x v then None else left_at ss x v

-- by an order of two versions of a key: from who wrote it at this place without reading it, or from
-- who reads it, to who wrote it
abbrev pub ordered_at : PlacedHistory → ℕ → ℕ → Option ℕ → Option ℕ → List ℕ
ordered_at log a b (Some i) j = codes " wrote "
    ++ (key_text (op_at log.history.now a i) ++ (codes " after " ++ named log a))
ordered_at log a b None (Some j) = unseen_text log b j
ordered_at log a b None None = codes " did not see " ++ named log b

abbrev pub ordered_text : PlacedHistory → ℕ → ℕ → ℕ → List ℕ
ordered_text log x a b =
    ordered_at log a b (written_unread log.history.now x a) (left_at log.history.now x b)

-- what an edge says, and by which step, but for the transaction with which that begins
abbrev pub said_text : PlacedHistory → ℕ → ℕ → Why → List ℕ
said_text log a b (why.Known r) = known_text log a b r
said_text log a b (why.Forced number o) = ordered_text log o.key a b
    ++ (codes " (by [" ++ (decimal number ++ codes "])"))
said_text log a b (why.Chosen o) = ordered_text log o.key a b

-- the words begin with the transaction that did not see a write, else with the second one
abbrev pub words_of : PlacedHistory → Option Bool → Item → List ℕ
words_of log before (Edge a b w) = lead_text log before (misses log.history.now (Edge a b w))
    (if misses log.history.now (Edge a b w) then a else b) ++ said_text log a b w
words_of log before _ = []

abbrev pub all_words : PlacedHistory → Option Bool → List Item → List ℕ
all_words log before [] = []
all_words log before (i ∷ items) = words_of log before i
    ++ all_words log (Some (misses log.history.now i)) items

-- how many of these edges stand behind the last one that misses a write
abbrev pub count_behind : List ClientSession → List Item → ℕ
count_behind ss items = prefix_len (λ i. not (misses ss i)) (reverse items)

-- edges that close: those behind the last one that misses a write, and then the others up to it
abbrev pub turned : ℕ → List Item → List Item
turned n items = drop n items ++ take n items

-- the edges of a cycle, where they are few; and what follows, where two do not show it at a glance
abbrev pub short_text : PlacedHistory → List Item → List ℕ
short_text log items = if nat_eq (length items) 0 || nat_lt MOST_EDGES (length items) then []
    else all_words log None (turned (length items - count_behind log.history.now items) items)
    ++ (if nat_lt 2 (length items) then codes "; no serial order has all of this\n" else codes "\n")
