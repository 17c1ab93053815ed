-- Lemmas of this crate.
pub mod Above
pub mod Acts
pub mod Below
pub mod Between
pub mod Contexts
pub mod Early
pub mod Finer
pub mod Firsts
pub mod Fresh
pub mod Gathering
pub mod Going
pub mod Grown
pub mod InTree
pub mod Items
pub mod Lanes
pub mod LeafRuns
pub mod Meets
pub mod Named
pub mod NodeCalls
pub mod NoStore
pub mod NodesSeen
pub mod OneEach
pub mod Order
pub mod Ordered
pub mod Putting
pub mod Read
pub mod Refusals
pub mod Relates
pub mod Requests
pub mod Room
pub mod Roots
pub mod RunLaws
pub mod Seen
pub mod GrownRuns
pub mod Trees
pub mod Within
-- Lemmas of crates below, for an engine's proofs.
pub use Rattle.ext_history.proofs.Composed
pub use Rattle.ext_crew.proofs.RunLaws as DealingLaws
pub use Rattle.ext_crew.proofs.Runs as Dealings
