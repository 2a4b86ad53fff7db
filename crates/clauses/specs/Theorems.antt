-- What is proved of walking a policy file again, for those that apply it.
use Rattle.std.specs.Prelude.{◌≡◌, refl, []}
use Rattle.policy.specs.Policy.{Policy, encode, records_in, Valid}
use Rattle.clauses.specs.Walking.{sessions_from}
use Rattle.clauses.specs.WalkedLaws.{sessions_from_lem}

-- A file that was judged sound holds the bytes of a valid policy (`accepts` of crate policy), and the walk gives just that policy: so what
-- is applied session by session is the policy that was accepted.
pub walked : (policy : Policy) → Valid policy → sessions_from (encode policy) 0 ≡ policy
walked policy good = sessions_from_lem (records_in policy) (encode policy) [] policy 0 refl good.sessions
