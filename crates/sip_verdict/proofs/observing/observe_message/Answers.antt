use Rattle.std.proofs.Common.{[], inl, inr, refl, ap, ◌∙◌}
use Rattle.sip_message.specs.SaidOf.{said_of}
use Rattle.sip_log.specs.Told.{item}
use Rattle.sip_verdict.specs.inner.Concerned.{each}
use Rattle.sip_verdict.proofs.judges.ObservingLemmas.{going, going_on, observes, observes_fault, observes_no_cookie, keyless_observation, observes_none, observes_heard, concerns_some, each_some, event_fits, going_says, event_kept}
use Rattle.sip_verdict.proofs.observing.observe_message.Goals as goal

-- a message that concerns no transaction is observed without keys
pub returns-in-None-clause-observed : goal.returns-in-None-clause-observed
returns-in-None-clause-observed c es =
    let i = item c.args.entry.now in
    let keys = rw c.in-None.is at c.in-Ok-keys_of.ensures in (
      keyless_observation i (said_of c.in-Ok.message),
      observes es i _ c.args.direction c.requires.direction
          (observes_none i c.args.direction c.as_slice.result.now c.in-Ok.message c.as_slice.ensures.value c.in-Ok.ensures keys.0 keys.1),
      -- it has no fault, its event is at the moment of the entry, and it has no key
      (refl, refl, refl),
    )

-- bytes that are no message are observed as their fault
pub returns-in-Err-Fault-clause-observed : goal.returns-in-Err-Fault-clause-observed
returns-in-Err-Fault-clause-observed c es =
    let i = item c.args.entry.now in
    rw c.in-Err-Fault.fault-is (
      _,
      observes es i _ c.args.direction c.requires.direction
          (observes_fault i c.args.direction c.as_slice.result.now _ c.as_slice.ensures.value (rw c.in-Err-Fault.field-0-is at c.in-Err-Fault.ensures)),
      -- what is told is just the fault
      refl,
    )

-- a sent request whose branch lacks the cookie is observed as that fault
pub returns-in-Err-NoCookie-clause-observed : goal.returns-in-Err-NoCookie-clause-observed
returns-in-Err-NoCookie-clause-observed c es =
    let i = item c.args.entry.now in (
      _,
      observes es i _ c.args.direction c.requires.direction
          (observes_no_cookie i c.args.direction c.as_slice.result.now c.in-Ok.message c.as_slice.ensures.value c.in-Ok.ensures (rw c.in-Err-NoCookie.field-0-is at c.in-Err-NoCookie.ensures)),
      -- what is told is just this fault
      refl,
    )

-- the entry is no mark, since its message went some way
pub of-event-requires-clause-action : goal.of-event-requires-clause-action
of-event-requires-clause-action c = going c.args.entry.now.action c.args.direction c.requires.direction

-- the entry is no restart, since its message went some way
pub of-event-requires-clause-message : goal.of-event-requires-clause-message
of-event-requires-clause-message c = going_on c.args.entry.now.action c.args.direction c.requires.direction

-- the bytes that were kept are those that were read
pub keep_to-requires-clause-read : goal.keep_to-requires-clause-read
keep_to-requires-clause-read c = rw (c.in_ok-number.ensures.ok.1, c.as_slice-2.ensures.value, ← c.as_slice.ensures.value) c.in-Ok.ensures

-- a message that concerns some transaction is observed with its event and its keys
pub returns-clause-observed : goal.returns-clause-observed
returns-clause-observed c es =
    -- i is the entry's item; the book has its message under its number, or under that of equal bytes
    let i = item c.args.entry.now in
    rw c.keep_to.ensures (
      _,
      observes es i _ c.args.direction c.requires.direction
          (observes_heard i c.args.direction c.as_slice.result.now c.in-Ok.message c.add.new.self c.of-event.result c.in_ok-number.number (each c.in-Ok-keys_of.concerned)
          c.as_slice.ensures.value c.in-Ok.ensures c.in-Ok-keys_of.ensures.0 c.in-Ok-keys_of.ensures.1 c.of-event.ensures (c.in_ok-number.ensures.ok.1 ∙ c.as_slice-2.ensures.value)),
      -- what is told is just the event with its keys
      refl,
    )

-- the event fits the book, and its keys are those of the message
pub returns-clause-heard : goal.returns-clause-heard
returns-clause-heard c =
    let fits = event_fits (item c.args.entry.now) c.in-Ok.message c.add.new.self c.of-event.result c.in_ok-number.number c.of-event.ensures c.in_ok-number.ensures.ok.0 c.requires.limit in
    rw c.keep_to.ensures (fits.0, fits.1, c.in-Ok-keys_of.ensures.2, c.in-Ok-keys_of.ensures.3)

-- the event goes where the action says and concerns some transaction, and the book has the bytes of its message under its number
pub returns-clause-kept : goal.returns-clause-kept
returns-clause-kept c =
    let i = item c.args.entry.now in
    let seen = returns-clause-observed c [] in
    let kept = event_kept i c.in-Ok.message c.add.new.self c.of-event.result c.in_ok-number.number _ c.of-event.ensures c.in_ok-number.ensures.ok.0 (c.in_ok-number.ensures.ok.1 ∙ c.as_slice-2.ensures.value) in
    -- `some`: the message concerns some key, since the keys that are seen of it are those that it concerns, and these are not none
    let some = concerns_some i (each c.in-Ok-keys_of.concerned) seen.0 seen.1 (ap (λ o. o.keys) seen.2) (each_some c.in-Ok-keys_of.concerned c.in-Ok-keys_of.ensures.3 c.in_default.not-None) in
    -- the entry was sent, received or failed, and concerns some key
    rw c.keep_to.ensures (
      going_says i.action c.args.direction c.requires.direction,
      some,
      kept.0,
      kept.1,
      elim (rw c.as_slice-2.ensures.value at c.in_ok-number.ensures.grows) [ inl h ↦ inl h.0 | inr h ↦ inr h.0 ],
    )
