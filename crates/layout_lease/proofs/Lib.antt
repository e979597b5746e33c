pub mod Lists
pub mod Lowest
pub mod SoundLock
pub mod Cookies
pub mod SoundTable
pub mod EventLaws
pub mod CookiesOf
pub mod Hands
