pub mod Decimals
pub mod Ascii
pub mod RisingLists
