mod FirstOutside
mod NeedLaws
mod PinOrder
pub mod ProjectLaws
