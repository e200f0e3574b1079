use Rattle.std.proofs.Common.{◌∙◌, inl, inr, sym}
use Rattle.std.proofs.lemmas.Bool.{false≢true}
use Rattle.sip_verdict.proofs.sweeps.NewestLemmas.{all_unnamed}
use Rattle.sip_verdict.proofs.standing.Standing.drop_unnamed.Goals as goal

-- where no set names the newest message, the book is without it, or as it was
pub returns-then-not-may_name-clause-book : goal.returns-then-not-may_name-clause-book
returns-then-not-may_name-clause-book g c =
    let t = c.args.self.now.tables in
    let unnamed = c.may_name.ensures.none c.if-not-may_name.true in
    elim c.forget_newest.ensures [
      | inl same ↦ inl same
      -- the message was dropped: gone.0 are its bytes, and gone.1 says that the book had them last
      | inr gone ↦ inr (gone.0, gone.1, all_unnamed c.args.number c.args.concerned t unnamed.0 c.requires.others unnamed.1)
    ]

-- the message may not be named, so no set names it
pub returns-then-not-may_name-clause-named : goal.returns-then-not-may_name-clause-named
returns-then-not-may_name-clause-named g c named = absurd (false≢true (sym c.if-not-may_name.true ∙ c.may_name.ensures.may.1 named))
