use Rattle.sip_verdict.proofs.surveys.forgetting.Onward.{later_kept}
use Rattle.sip_verdict.proofs.forgetting_laws.what_is_kept_is_found_at_the_same_entries.Goals as goal

-- the law, that a transaction which is kept is found at the same entries, is the lemma of two logs that go on with the same items
pub returns : goal.returns
returns c p kept key old items es others is seen saw = later_kept key p kept is old items es others seen saw
