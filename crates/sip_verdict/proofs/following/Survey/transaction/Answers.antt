use Rattle.std.proofs.Common.{◌≡◌, ◌-◌, ◌∙◌, Some, slice_get, sym, ap, subst, refl, rules}
use Rattle.sip_verdict.specs.SurveyText.{IsFirstEntryOf, IsLastEntryOf}
use Rattle.sip_verdict.specs.Surveys.{AreHistories}
use Rattle.sip_verdict.proofs.surveys.kept.Histories.{IfSome-at, history_at}
use Rattle.sip_verdict.proofs.following.Survey.transaction.Goals as goal

-- the key and the history that stand under a number are those of the transaction with that number
pub returns : goal.returns
returns g c = λ es surveys low.
    let s = c.self.inside in
    let is = c.self.view_is in
    let n = c.args.number - 1 in
    let key = c.in_ok-key.key.now in
    let h = c.in_ok-history.history.now in
    -- the keys are those of the entries, and each history is that of the key under its number
    let keys = ap (λ j. j.tables.keys) is ∙ surveys.follows.tracks.keys in
    let told = subst (λ j. AreHistories es j.histories) (sym is) surveys.histories in
    -- `at`: the key stands under the number in the tables, and so (`there`) among the keys of the entries; `here`: so does its history
    let at : slice_get s.standing.tables.keys n ≡ Some key = search rules in
    let here : slice_get s.histories.each.items n ≡ Some h = history_at _ _ _ _ _ c.get.ensures.lookup c.deref.ensures.value c.in_ok-history.was in
    let there = ap (λ ks. slice_get ks n) (sym keys) ∙ at in
    let one = told.each n key h there here in
    -- of the key under the number the words are right: its first entry, with its branch, and its last one
    IfSome-at _ _ key there
    (refl, subst (IsFirstEntryOf es key h.first) (sym c.as_slice.ensures.value) one.first, subst (IsLastEntryOf es key) (sym c.max.ensures) one.last)
