pub mod ReadBack
pub mod RoundTrip
