-- What the suites of the tests say of their nodes and calls.
pub mod Leaves
