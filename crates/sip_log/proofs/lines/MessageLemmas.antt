-- Lemmas of a message and the byte after it, by the bytes that are held.
use Rattle.std.proofs.Common.{◌≡◌, ◌≢◌, inl, inr, ℕ, ◌+◌, ◌<◌, List, ◌++◌, length, take, drop, get_or, refl, ap, arith}
use Rattle.std.proofs.lemmas.List.{length-take-le, length-append}
use Rattle.sip_standard.specs.declared.action.Action.{Action}
use Rattle.sip_standard.specs.declared.log_reason.LogReason.TheVariants as faults
use Rattle.sip_standard.specs.LogSays.{line_feed}
use Rattle.sip_log.specs.Next.{gives, stops}
use Rattle.sip_log.specs.inner.Entry.{CloseComes, MessageComes}
use Rattle.sip_log.proofs.lines.SplitLemmas.{cut-at, cut-more}

-- What follows is of a message of `len` bytes at the front of the bytes `held`, which the reader holds, and `ys`, which follow in the source.
module _ (action : Action) (moment len : ℕ) (held ys : List ℕ) where
  -- where the message is held whole with the byte after it, what comes by that byte comes next
  AtMessage-held : len < length held → (next : _) → CloseComes action moment (take len held) (get_or held len 0) (drop (len + 1) held ++ ys) next
      → MessageComes action moment len (held ++ ys) next
  AtMessage-held inside next close = inr (
    omega (arith, length-append held ys),
    (
      -- the message, the byte after it and what follows them are what is held and what is left
      take len held,
      get_or held len 0,
      drop (len + 1) held ++ ys,
      cut-more (take len held) (drop (len + 1) held) (get_or held len 0) held ys (cut-at held len inside),
      length-take-le len held (omega arith),
      close,
    ),
  )

  -- where the byte after the message is not LF, the entry is at fault
  pub AtMessage-open : len < length held → get_or held len 0 ≢ line_feed → MessageComes action moment len (held ++ ys) (stops faults.EntryLine)
  AtMessage-open inside other = AtMessage-held inside (stops faults.EntryLine) (inl (other, refl))

  -- where the byte after the message is LF, the entry with the message comes next
  pub AtMessage-gives : (text : List ℕ) → len < length held → get_or held len 0 ≡ line_feed → text ≡ take len held
      → MessageComes action moment len (held ++ ys) (gives (record { action = action; moment = moment; text = text }) (drop (len + 1) held ++ ys))
  AtMessage-gives text inside feed is =
      AtMessage-held inside (gives (record { action = action; moment = moment; text = text }) (drop (len + 1) held ++ ys))
      (inr (feed, ap (λ (t : List ℕ). gives (record { action = action; moment = moment; text = t }) (drop (len + 1) held ++ ys)) is))
