-- The runs of one key, and the set that leads to them.
-- what an event leaves of the runs of a transaction of any machine
pub mod AnyHearing
-- a run over entries gives one over the first of them
pub mod FewerEntries
-- what an event leaves of the runs of one transaction, whatever its machine is
pub mod Hearing
-- what an entry leaves of a key whose set leads to its runs
pub mod KeyPassing
-- the keys of entries, and the events of a key
pub mod Keys
-- how a set that leads to the runs goes on to lead to them
pub mod Leading
-- what an event leaves of the runs, said by the states of a set
pub mod OneMachine
-- how long the runs of a key can wait
pub mod Overdue
-- a set that is quiet passes a restart as it is
pub mod QuietSets
-- runs by the rules of a machine are those of the standard
pub mod RunsStand
-- how two splits of one list lie to each other
pub mod Splitting
-- what an event leaves of the runs is what its entry leaves of the key
pub mod Stepped
