pub mod Canonical
pub mod Forms
pub mod Lines
pub mod Making
pub mod Outcomes
pub mod Reading
pub mod Spelling
pub mod Trees
