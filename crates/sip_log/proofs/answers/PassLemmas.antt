-- Lemmas of an entry that was looked at where it stands, and passed over.
use Rattle.std.proofs.Common.{◌≡◌, ◌≢◌, ◌+◌, ℕ, Bool, List, [], ◌∷◌, ◌++◌, drop, Option, Some, None, IfSome, refl, subst, sym, ap, ◌∙◌}
use Rattle.std.specs.Io.KnownBytes.{prepend_known}
use Rattle.std.proofs.lemmas.List.{length_push}
use Rattle.sip_standard.specs.declared.format.Format.{Format}
use Rattle.sip_standard.specs.LogEntry.{Item}
use Rattle.sip_log.specs.Ahead.{IsAhead, item_ahead, passed}
use Rattle.sip_log.specs.declared.ahead.Ahead.{Ahead}
use Rattle.sip_log.specs.Next.{gives, ComesNext}
use Rattle.sip_log.specs.Reading.{ProgressState, ReaderState, beside_source}
use Rattle.sip_log.specs.inner.Ahead.{ComesWithout, LacksMessage}
use Rattle.sip_log.specs.inner.Entry.{EntryComes}
use Rattle.sip_log.proofs.logs.LogLaws.{ComesNext-one}
use Rattle.sip_log.proofs.answers.NextRead.{next-read}
use Rattle.sip_log.proofs.answers.CallerLemmas.{Stands, StandsAt, gave-next, last_of-push}

-- where something comes that is no entry with a message, no entry with a message comes next by the spelling
pub Without-lacks : (format : Format) (count last : ℕ) (held : List ℕ) → ComesWithout (EntryComes format count last held)
    → (e : Item) (after : List ℕ) → e.text ≢ [] → ¬ (ComesNext format count last held (gives e after))
Without-lacks format count last held (next, at, lacks) e after some comes =
    some (subst LacksMessage (ComesNext-one format count last held next (gives e after) at (next-read format count last held (gives e after) comes)) lacks)

-- What follows is of an entry that was answered by `ahead`, where the log was read as far as p says.
module _ (p : ProgressState) (a : Ahead) (is : IsAhead p a) where
  -- the entry
  abbrev pub entry_of : Item
  entry_of = item_ahead a.action a.moment a.message.now

  -- it comes next in what is left to read, where that is known
  comes-next : (left : Option (List ℕ))
      → IfSome (prepend_known p.held left) (λ xs. (ys : List ℕ) × (prepend_known (drop a.size p.held) left ≡ Some ys) × ComesNext p.format p.count p.last xs (gives entry_of ys))
  -- where it is not known what the source has left, nothing is to be shown
  comes-next None = tt
  comes-next (Some zs) = (drop a.size p.held ++ zs, refl, is.comes zs)

  -- where the reader stands after these items, it stands after them and the entry once the entry is passed over
  pub Stands-passed : (start left : Option (List ℕ)) (failed : Bool) (items : List Item) → Stands start items (beside_source p left failed)
      → Stands start (items ++ entry_of ∷ []) (beside_source (passed p a.moment a.size) left failed)
  Stands-passed start left failed items stands =
      let old : ReaderState = beside_source p left failed in
      let new : ReaderState = beside_source (passed p a.moment a.size) left failed in
      let at = subst (λ s. StandsAt s start items old) is.on stands in
      (gave-next start items old new entry_of p.times start at.1 at.2 at.0 (comes-next left), ap (λ n. n + 1) at.1 ∙ sym (length_push items entry_of), sym (last_of-push 0 items entry_of))
